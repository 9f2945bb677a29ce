use Rattle.std.proofs.Common.{◌≡◌, length}
use Rattle.ips_filter.specs.Admitted.{has_value}
use Rattle.ips_filter.proofs.admitting.has.Given as goal

abbrev pub invariant-loop-other : goal.invariant-loop-other
invariant-loop-other l = has_value l.left l.value ≡ has_value l.fn.values l.value

abbrev pub decreases-loop-other : goal.decreases-loop-other
decreases-loop-other l = length l.left
