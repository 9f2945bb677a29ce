use Rattle.std.proofs.Common.{length}
use Rattle.ips_depend.proofs.Written.{Passed}
use Rattle.ips_depend.proofs.reading.read_fmris.Given as goal

abbrev pub invariant-loop-text : goal.invariant-loop-text
invariant-loop-text l = Passed l.fn.texts l.left l.fmris.items

abbrev pub decreases-loop-text : goal.decreases-loop-text
decreases-loop-text l = length l.left
