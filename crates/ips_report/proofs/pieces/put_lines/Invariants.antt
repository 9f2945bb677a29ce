use Rattle.std.proofs.Common.{◌≡◌, ◌++◌, take}
use Rattle.ips_report.specs.Report.{behind_blanks, prefixed_lines}
use Rattle.ips_report.proofs.pieces.put_lines.Given as goal

abbrev pub invariant-loop-text : goal.invariant-loop-text
invariant-loop-text l = (l.out.text ≡ l.initial.out.text ++ prefixed_lines l.front (take l.text-index l.texts)) × (l.out.room ≡ l.initial.out.room)
