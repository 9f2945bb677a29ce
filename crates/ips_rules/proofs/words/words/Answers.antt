use Rattle.std.proofs.Common.{◌∙◌, subst, sym, rules}
use Rattle.ips_line.specs.Seen.{seen_written}
use Rattle.ips_rule.specs.Rules.{Value}
use Rattle.ips_rules.proofs.Reader.{written_quote, next_shorter}
use Rattle.ips_rules.proofs.Left.{Left, left_begin, left_on, left_none, left_end}
use Rattle.ips_rules.proofs.words.words.Goals as goal

pub loop-rest-init : goal.loop-rest-init
loop-rest-init c = (search rules, subst (Left c.args.text.now c.args.text.now) (sym c.new-words.ensures.items) (left_begin c.args.text.now))

pub returns-in_default-clause-none : goal.returns-in_default-clause-none
returns-in_default-clause-none c = λ others h. left_none c.args.text.now c.loop-rest.rest.now c.loop-rest.words.items c.loop-rest.invariant.1 (sym c.is_blank.ensures ∙ c.loop-rest-test.true) c.in_default.ensures.none others h

pub value-requires : goal.value-requires
value-requires c = written_quote (seen_written c.in-Some.written) c.in-Some.ensures.some.1.spelled.1

pub loop-rest-smaller : goal.loop-rest-smaller
loop-rest-smaller c = next_shorter c.loop-rest.rest.now (Value (seen_written c.in-Some.written)) c.in-Some.after.now c.in-Some.ensures.some

pub loop-rest-preserved : goal.loop-rest-preserved
loop-rest-preserved c = (
  search rules,
  rw (c.in_ok-push.ensures.items, c.in_ok-value.ensures)
      (left_on c.args.text.now c.loop-rest.rest.now c.loop-rest.words.items (Value (seen_written c.in-Some.written)) c.in-Some.after.now c.loop-rest.invariant.1 (sym c.is_blank.ensures ∙ c.loop-rest-test.true) c.in-Some.ensures.some),
)

pub returns-clause-some : goal.returns-clause-some
returns-clause-some c = left_end c.args.text.now c.loop-rest.rest.now c.loop-rest.words.items c.loop-rest.invariant.1 (sym c.is_blank.ensures ∙ c.loop-rest-test.false)
