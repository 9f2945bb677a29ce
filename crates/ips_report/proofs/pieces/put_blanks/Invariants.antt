use Rattle.std.proofs.Common.{◌≡◌, ◌++◌, take}
use Rattle.ips_report.specs.Report.{behind_blanks, prefixed_lines}
use Rattle.ips_report.proofs.pieces.put_blanks.Given as goal

abbrev pub invariant-loop-word : goal.invariant-loop-word
invariant-loop-word l = (l.out.text ≡ l.initial.out.text ++ behind_blanks (take l.word-index l.words)) × (l.out.room ≡ l.initial.out.room)
