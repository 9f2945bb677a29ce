use Rattle.ips_rules.proofs.Equals.{if_none}
use Rattle.ips_rules.proofs.Reader.{no_keyed, no_term}
use Rattle.ips_rules.proofs.terms.term_at.Goals as goal

pub returns-in_err-quote-in-Some-clause-none : goal.returns-in_err-quote-in-Some-clause-none
returns-in_err-quote-in-Some-clause-none c =
    let some = c.in-Some.ensures.some in
    if_none c.from_residual.result (no_keyed c.args.text.now c.in-Some.key.now c.in-Some.rest.now some.0 some.1 some.2 c.in_err-quote-in-Some.ensures.none)

pub returns-in_err-value-in-None-clause-none : goal.returns-in_err-value-in-None-clause-none
returns-in_err-value-in-None-clause-none c = if_none c.from_residual-in_err-value-in-None.result (no_term c.args.text.now c.in-None.ensures.none c.in_err-value-in-None.ensures.none)
