use Rattle.std.proofs.Common.{◌≡◌, length}
use Rattle.ips_refute.specs.Reading.{ascends}
use Rattle.ips_refute.proofs.ascending.ascend.Given as goal

abbrev pub invariant-loop-rest : goal.invariant-loop-rest
invariant-loop-rest l = ascends l.rest ≡ ascends l.set

abbrev pub decreases-loop-rest : goal.decreases-loop-rest
decreases-loop-rest l = length l.rest
