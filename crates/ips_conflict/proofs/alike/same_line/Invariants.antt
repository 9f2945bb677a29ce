use Rattle.std.proofs.Common.{◌≡◌, length}
use Rattle.std.specs.Cmp.Lexicographic.{pointwise}
use Rattle.ips_conflict.specs.Alike.{same_attr, untagged}
use Rattle.ips_conflict.proofs.alike.same_line.Given as goal

abbrev pub invariant-loop-x : goal.invariant-loop-x
invariant-loop-x l = pointwise same_attr (untagged l.left) (untagged l.right) ≡ pointwise same_attr (untagged l.fn.a) (untagged l.fn.b)

abbrev pub decreases-loop-x : goal.decreases-loop-x
decreases-loop-x l = length (untagged l.left)
