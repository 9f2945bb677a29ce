use Rattle.std.proofs.Common.{length}
use Rattle.ips_next.specs.Alike.{AreAlike}
use Rattle.ips_next.proofs.alike.are_alike.Given as goal

abbrev pub invariant-loop-item : goal.invariant-loop-item
invariant-loop-item g l = (AreAlike g.T.Alike.alike l.left l.right → AreAlike g.T.Alike.alike l.initial.left l.initial.right) × (AreAlike g.T.Alike.alike l.initial.left l.initial.right → AreAlike g.T.Alike.alike l.left l.right)

abbrev pub decreases-loop-item : goal.decreases-loop-item
decreases-loop-item g l = length l.left
