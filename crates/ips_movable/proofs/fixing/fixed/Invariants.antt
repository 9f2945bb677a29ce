use Rattle.std.proofs.Common.{take}
use Rattle.std.specs.List.{AllByRecursion}
use Rattle.ips_movable.specs.Movable.{CanMove}
use Rattle.ips_movable.proofs.fixing.fixed.Given as goal

abbrev pub invariant-loop-i : goal.invariant-loop-i
invariant-loop-i l = AllByRecursion (CanMove l.root.bytes) (take l.i l.things)
