use Rattle.std.proofs.Common.{◌≡◌, length}
use Rattle.std.specs.Cmp.Lexicographic.{pointwise}
use Rattle.ips_action.specs.Attrs.{is_same}
use Rattle.ips_conflict.proofs.alike.same_values.Given as goal

abbrev pub invariant-loop-x : goal.invariant-loop-x
invariant-loop-x l = pointwise is_same l.left l.right ≡ pointwise is_same l.fn.a l.fn.b

abbrev pub decreases-loop-x : goal.decreases-loop-x
decreases-loop-x l = length l.left
