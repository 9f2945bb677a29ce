use Rattle.std.proofs.Common.{take}
use Rattle.ips_depend.specs.Asking.{LinesAsk}
use Rattle.ips_depend.proofs.reading.tests_of.Given as goal

abbrev pub invariant-loop-line : goal.invariant-loop-line
invariant-loop-line l = LinesAsk l.settings (take l.line-index l.manifest.lines.items) l.tests.items
