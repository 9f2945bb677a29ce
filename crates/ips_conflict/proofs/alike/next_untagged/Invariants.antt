use Rattle.std.proofs.Common.{◌≡◌, length}
use Rattle.ips_conflict.specs.Alike.{untagged}
use Rattle.ips_conflict.proofs.alike.next_untagged.Given as goal

abbrev pub invariant-loop-attr : goal.invariant-loop-attr
invariant-loop-attr l = untagged l.left ≡ untagged l.fn.attrs

abbrev pub decreases-loop-attr : goal.decreases-loop-attr
decreases-loop-attr l = length l.left
