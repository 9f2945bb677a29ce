use Rattle.std.proofs.Common.{sym, ◌∙◌}
use Rattle.ips_line.proofs.Escapes.{needs_test}
use Rattle.ips_line.proofs.printing.needs_quotes.Goals as goal

pub returns-else-is_empty : goal.returns-else-is_empty
returns-else-is_empty c = c.is_some.ensures ∙ needs_test c.args.value.now c.special.result (sym c.is_empty.ensures ∙ c.if-is_empty.false) c.special.ensures
