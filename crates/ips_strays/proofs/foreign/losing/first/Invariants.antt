use Rattle.std.proofs.Common.{◌≡◌, false, take}
use Rattle.std.specs.List.{AllByRecursion}
use Rattle.ips_strays.specs.foreign.Foreign.{is_lost_thing}
use Rattle.ips_strays.proofs.foreign.losing.first.Given as goal

abbrev pub invariant-loop-i : goal.invariant-loop-i
invariant-loop-i l = AllByRecursion (λ x. is_lost_thing x ≡ false) (take l.i l.things)
