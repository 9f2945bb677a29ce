use Rattle.std.proofs.Common.{◌∙◌, sym}
use Rattle.ips_rules.specs.Seen.{seen_term}
use Rattle.ips_rules.proofs.Equals.{if_none}
use Rattle.ips_rules.proofs.Reader.{terms_read, next_is, no_word, no_end}
use Rattle.ips_rules.proofs.terms.next_term.Goals as goal

pub returns-in_err-term-clause-none : goal.returns-in_err-term-clause-none
returns-in_err-term-clause-none c =
    if_none c.from_residual-in_err-term.result
    (no_word terms_read c.args.text.now c.in_ok-behind_blanks.field-0.now c.in_ok-behind_blanks.ensures.some.1 c.in_err-term.ensures.none)

pub returns-then-ends_word-clause-some : goal.returns-then-ends_word-clause-some
returns-then-ends_word-clause-some c =
    let some = c.in_ok-behind_blanks.ensures.some in
    next_is terms_read c.args.text.now c.in_ok-behind_blanks.field-0.now (seen_term c.in_ok-term.term) c.in_ok-term.behind.now some.0 some.1 c.in_ok-term.ensures.some (sym c.ends_word.ensures ∙ c.if-ends_word.true)

pub returns-else-ends_word-clause-none : goal.returns-else-ends_word-clause-none
returns-else-ends_word-clause-none c =
    no_end terms_read c.args.text.now c.in_ok-behind_blanks.field-0.now (seen_term c.in_ok-term.term) c.in_ok-term.behind.now c.in_ok-behind_blanks.ensures.some.1 c.in_ok-term.ensures.some (sym c.ends_word.ensures ∙ c.if-ends_word.false)
