use Rattle.std.proofs.Common.{take}
use Rattle.ips_report.specs.Report.{behind_blanks, prefixed_lines}
use Rattle.ips_tell.specs.telling.Finishing.{Adds}
use Rattle.ips_tell.proofs.telling.pieces.put_words.Given as goal

abbrev pub invariant-loop-word : goal.invariant-loop-word
invariant-loop-word g l = Adds g.O.Sink.taking (behind_blanks (take l.word-index l.words)) l.initial.out l.told l.out l.all
