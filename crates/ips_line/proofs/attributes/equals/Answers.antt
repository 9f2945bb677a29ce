use Rattle.std.proofs.Common.{sym, ◌∙◌, arith}
use Rattle.ips_line.proofs.Runs.{equals_on, equals_none}
use Rattle.ips_line.proofs.Quotes.{cut_first}
use Rattle.ips_line.proofs.attributes.equals.Goals as goal

pub range_from-requires : goal.range_from-requires
range_from-requires c = λ h. cut_first c.args.text.now 61 c.utf8.text (sym c.begins_with.ensures ∙ c.if-begins_with.true) (omega arith)

pub returns-then-begins_with : goal.returns-then-begins_with
returns-then-begins_with c = rw (c.range_from.ensures.value) (equals_on c.args.text.now (sym c.begins_with.ensures ∙ c.if-begins_with.true))

pub returns-else-begins_with : goal.returns-else-begins_with
returns-else-begins_with c = rw (c.wrong.ensures) (equals_none c.args.text.now (sym c.begins_with.ensures ∙ c.if-begins_with.false))
