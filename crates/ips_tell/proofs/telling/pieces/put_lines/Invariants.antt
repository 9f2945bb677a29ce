use Rattle.std.proofs.Common.{take}
use Rattle.ips_report.specs.Report.{behind_blanks, prefixed_lines}
use Rattle.ips_tell.specs.telling.Finishing.{Adds}
use Rattle.ips_tell.proofs.telling.pieces.put_lines.Given as goal

abbrev pub invariant-loop-text : goal.invariant-loop-text
invariant-loop-text g l = Adds g.O.Sink.taking (prefixed_lines l.front (take l.text-index l.texts)) l.initial.out l.told l.out l.all
