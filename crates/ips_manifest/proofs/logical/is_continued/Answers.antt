use Rattle.std.proofs.Common.{sym, ◌∙◌}
use Rattle.ips_manifest.proofs.Ends.{empty_ends, ends_told, some_left}
use Rattle.ips_manifest.proofs.logical.is_continued.Goals as goal

pub returns-then-is_empty : goal.returns-then-is_empty
returns-then-is_empty c = sym (empty_ends c.args.line.now (sym c.is_empty.ensures ∙ c.if-is_empty.true))

pub returns : goal.returns
returns c = sym (ends_told c.args.line.now (some_left c.args.line.now (sym c.is_empty.ensures ∙ c.if-is_empty.false)))
