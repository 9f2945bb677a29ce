use Rattle.std.proofs.Common.{sym, ◌∙◌}
use Rattle.ips_manifest.proofs.FirstLine.{line_before, last_line}
use Rattle.ips_manifest.proofs.physical.next_line.Goals as goal

pub returns-in-Some-clause-line : goal.returns-in-Some-clause-line
returns-in-Some-clause-line c = line_before c.args.bytes.now c.in-Some.end (sym c.newline.ensures ∙ c.in-Some.is)

pub returns-in-None-clause-line : goal.returns-in-None-clause-line
returns-in-None-clause-line c = last_line c.args.bytes.now (sym c.newline.ensures ∙ c.in-None.is) (sym c.is_empty.ensures ∙ c.if-is_empty.false)
