use Rattle.std.proofs.Common.{◌∙◌, sym}
use Rattle.ips_line.specs.Seen.{seen_written}
use Rattle.ips_rule.specs.Rules.{Value}
use Rattle.ips_rules.proofs.Equals.{if_none}
use Rattle.ips_rules.proofs.Reader.{values_read, next_is, no_word, no_end, no_value}
use Rattle.ips_rules.proofs.words.next_value.Goals as goal

pub returns-in_err-value-clause-none : goal.returns-in_err-value-clause-none
returns-in_err-value-clause-none c =
    if_none c.from_residual-in_err-value.result
    (no_word values_read c.args.text.now c.in_ok-behind_blanks.field-0.now c.in_ok-behind_blanks.ensures.some.1 (no_value c.in_ok-behind_blanks.field-0.now c.in_err-value.ensures.none))

pub returns-then-ends_word-clause-some : goal.returns-then-ends_word-clause-some
returns-then-ends_word-clause-some c =
    let some = c.in_ok-behind_blanks.ensures.some in
    next_is values_read c.args.text.now c.in_ok-behind_blanks.field-0.now (Value (seen_written c.in_ok-value.value)) c.in_ok-value.behind.now some.0 some.1 c.in_ok-value.ensures.some (sym c.ends_word.ensures ∙ c.if-ends_word.true)

pub returns-else-ends_word-clause-none : goal.returns-else-ends_word-clause-none
returns-else-ends_word-clause-none c =
    no_end values_read c.args.text.now c.in_ok-behind_blanks.field-0.now (Value (seen_written c.in_ok-value.value)) c.in_ok-value.behind.now c.in_ok-behind_blanks.ensures.some.1 c.in_ok-value.ensures.some (sym c.ends_word.ensures ∙ c.if-ends_word.false)
