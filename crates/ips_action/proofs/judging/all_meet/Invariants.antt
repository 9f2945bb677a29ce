use Rattle.std.proofs.Common.{length}
use Rattle.std.specs.List.{AllByRecursion}
use Rattle.ips_action.specs.Check.{Meets}
use Rattle.ips_action.proofs.judging.all_meet.Given as goal

abbrev pub invariant-loop-value : goal.invariant-loop-value
invariant-loop-value l =
    (AllByRecursion (Meets l.check l.path) l.left → AllByRecursion (Meets l.check l.path) l.fn.values)
    × (AllByRecursion (Meets l.check l.path) l.fn.values → AllByRecursion (Meets l.check l.path) l.left)

abbrev pub decreases-loop-value : goal.decreases-loop-value
decreases-loop-value l = length l.left
