use Rattle.std.proofs.Common.{◌≡◌, take}
use Rattle.std.specs.List.{AllByRecursion}
use Rattle.ips_action.specs.Held.{OfKey}
use Rattle.ips_action.proofs.values.run_of.Given as goal

abbrev pub invariant-loop-slot : goal.invariant-loop-slot
invariant-loop-slot l = (l.count ≡ l.slot-index) × AllByRecursion (OfKey l.key) (take l.slot-index l.slots)
