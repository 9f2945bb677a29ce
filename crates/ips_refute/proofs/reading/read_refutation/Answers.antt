use Rattle.std.proofs.Common.{Ok, arith, sym, ap, ◌∙◌}
use Rattle.std.specs.List.{flat_map}
use Rattle.std.proofs.lemmas.Result.{err_from_is_err_and}
use Rattle.ips_refute.specs.Text.{entry_of, entries, line_text}
use Rattle.ips_refute.proofs.Spelled.{read_bad, read_more, read_shorter, read_all, one_text, something}
use Rattle.ips_refute.proofs.reading.read_refutation.Goals as goal

pub returns-in_default-clause-only : goal.returns-in_default-clause-only
returns-in_default-clause-only c = λ es t. absurd (c.in_default.ensures.none t.counts (flat_map line_text t.lines) t.spelled)

pub returns-in_err-nogood-clause-only : goal.returns-in_err-nogood-clause-only
returns-in_err-nogood-clause-only c =
    let p = err_from_is_err_and c.from_residual.result c.from_residual.ensures.1 in
    rw (p.1, p.2) (read_bad c.in-Some.counts c.in_err-nogood.field-0.0 c.args.bytes.now c.loop-rest.rest.now c.loop-rest.nogoods.items c.len.result c.loop-rest.invariant (something c.is_empty.result c.loop-rest.rest.now c.is_empty.ensures c.loop-rest-test.true) (omega (arith, c.loop-rest.nogoods.ok.0, c.len.ensures)) c.in_err-nogood.ensures).0

pub returns-in_err-nogood-clause-line : goal.returns-in_err-nogood-clause-line
returns-in_err-nogood-clause-line c =
    let p = err_from_is_err_and c.from_residual.result c.from_residual.ensures.1 in
    rw (p.1, p.2) (read_bad c.in-Some.counts c.in_err-nogood.field-0.0 c.args.bytes.now c.loop-rest.rest.now c.loop-rest.nogoods.items c.len.result c.loop-rest.invariant (something c.is_empty.result c.loop-rest.rest.now c.is_empty.ensures c.loop-rest-test.true) (omega (arith, c.loop-rest.nogoods.ok.0, c.len.ensures)) c.in_err-nogood.ensures).1

pub loop-rest-smaller : goal.loop-rest-smaller
loop-rest-smaller c = read_shorter c.in-Some.counts c.len.result c.loop-rest.rest.now (entry_of c.in_ok-nogood.nogood) c.in_ok-nogood.after.now c.in_ok-nogood.ensures

pub loop-rest-preserved : goal.loop-rest-preserved
loop-rest-preserved c = rw c.in_ok-push.ensures.items (read_more c.in-Some.counts c.args.bytes.now c.loop-rest.rest.now c.loop-rest.nogoods.items c.in_ok-nogood.nogood c.len.result c.in_ok-nogood.after.now c.loop-rest.invariant c.in_ok-nogood.ensures)

pub returns-clause-found : goal.returns-clause-found
returns-clause-found c = read_all c.in-Some.counts c.args.bytes.now c.loop-rest.rest.now c.loop-rest.nogoods.items c.loop-rest.invariant (sym c.is_empty.ensures ∙ c.loop-rest-test.false)

pub returns-clause-only : goal.returns-clause-only
returns-clause-only c = λ es t.
    let all = read_all c.in-Some.counts c.args.bytes.now c.loop-rest.rest.now c.loop-rest.nogoods.items c.loop-rest.invariant (sym c.is_empty.ensures ∙ c.loop-rest-test.false) in
    ap (λ (l : _). Ok l) (one_text es (entries c.loop-rest.nogoods.items) c.args.bytes.now t all.1)
