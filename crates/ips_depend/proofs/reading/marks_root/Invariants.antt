use Rattle.std.proofs.Common.{◌≡◌, length}
use Rattle.ips_depend.specs.Asking.{marks_root}
use Rattle.ips_depend.proofs.reading.marks_root.Given as goal

abbrev pub invariant-loop-value : goal.invariant-loop-value
invariant-loop-value l = marks_root l.left ≡ marks_root l.fn.values

abbrev pub decreases-loop-value : goal.decreases-loop-value
decreases-loop-value l = length l.left
