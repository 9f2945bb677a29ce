use Rattle.std.proofs.Common.{◌∙◌, sym}
use Rattle.ips_rules.proofs.Equals.{no_quote}
use Rattle.ips_rules.proofs.terms.quoting_key.Goals as goal

pub returns-else-begins_quote-clause-none : goal.returns-else-begins_quote-clause-none
returns-else-begins_quote-clause-none c =
    no_quote c.args.text.now c.in_ok-key.key.now c.in_ok-key.rest.now c.in_ok-key.ensures.some.0 c.in_ok-key.ensures.some.1 (sym c.begins_quote.ensures ∙ c.if-begins_quote.false)
