use Rattle.std.proofs.Common.{sym, ◌∙◌, arith}
use Rattle.ips_line.proofs.Quotes.{cut_first, cut_escape}
use Rattle.ips_line.proofs.values.unescaped_first.Goals as goal

pub range-requires-clause-end_boundary : goal.range-requires-clause-end_boundary
range-requires-clause-end_boundary c = cut_escape c.args.quote c.args.text.now c.requires.quotes c.utf8.text (sym (rw (c.as_bytes.ensures.value) at c.begins_escape.ensures) ∙ c.if-begins_escape.true)

pub range_from-requires : goal.range_from-requires
range_from-requires c = λ h. cut_escape c.args.quote c.args.text.now c.requires.quotes c.utf8.text (sym (rw (c.as_bytes.ensures.value) at c.begins_escape.ensures) ∙ c.if-begins_escape.true)

pub split_at-requires : goal.split_at-requires
split_at-requires c = cut_first c.args.text.now 92 c.utf8.text c.requires.first (omega arith)
