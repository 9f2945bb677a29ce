use Rattle.std.proofs.Common.{sym, ◌∙◌, rules}
use Rattle.std.proofs.lemmas.Result.{err_from_is_err_and}
use Rattle.ips_line.specs.Reading.{attribute_at}
use Rattle.ips_line.specs.Seen.{seen_attribute}
use Rattle.ips_line.proofs.Listed.{attribute_shorter}
use Rattle.ips_line.proofs.Gathered.{is_some, gather_on, gather_end, gather_fails, seen_fails}
use Rattle.ips_line.proofs.attributes.pairs.Goals as goal
use Rattle.ips_text.proofs.Readers.{seen_ok}

pub returns-in_err-attribute : goal.returns-in_err-attribute
returns-in_err-attribute c =
    let p = err_from_is_err_and c.from_residual.result c.from_residual.ensures.1 in
    rw (p.1, p.2)
    (gather_fails c.in_err-attribute.field-0.0 c.loop-rest.pairs.items c.loop-rest.rest.now _
    (sym (is_some c.loop-rest.rest.now c.run.result.1.now c.run.result.0.now c.run.ensures) ∙ sym c.is_empty.ensures ∙ c.loop-rest-test.true)
    (seen_fails _ c.next_attribute.result (attribute_at c.loop-rest.rest.now) c.in_err-attribute.field-0.0 c.in_err-attribute.ensures c.next_attribute.ensures.exact)
    c.loop-rest.invariant.1)

pub loop-rest-smaller : goal.loop-rest-smaller
loop-rest-smaller c = attribute_shorter c.loop-rest.rest.now _ (seen_ok _ c.next_attribute.result (attribute_at c.loop-rest.rest.now) _ c.in_ok-attribute.ensures c.next_attribute.ensures.exact)

pub loop-rest-preserved : goal.loop-rest-preserved
loop-rest-preserved c = (
  search rules,
  rw (c.in_ok-push.ensures.items, c.in_ok-pair.ensures)
      (gather_on c.loop-rest.pairs.items c.loop-rest.rest.now (seen_attribute c.in_ok-attribute.attribute, c.in_ok-attribute.after.now) _
      (sym (is_some c.loop-rest.rest.now c.run.result.1.now c.run.result.0.now c.run.ensures) ∙ sym c.is_empty.ensures ∙ c.loop-rest-test.true)
      (seen_ok _ c.next_attribute.result (attribute_at c.loop-rest.rest.now) _ c.in_ok-attribute.ensures c.next_attribute.ensures.exact)
      c.loop-rest.invariant.1),
)

pub returns : goal.returns
returns c = gather_end c.loop-rest.pairs.items c.loop-rest.rest.now _ (sym (is_some c.loop-rest.rest.now c.run.result.1.now c.run.result.0.now c.run.ensures) ∙ sym c.is_empty.ensures ∙ c.loop-rest-test.false) c.loop-rest.invariant.1
