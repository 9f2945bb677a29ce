use Rattle.std.proofs.Common.{◌≡◌, ℕ, ◌<◌, Some, slice_get, take}
use Rattle.ips_refute.specs.declared.nogoods.Nogood.{Nogood}
use Rattle.ips_refute.specs.Refuting.{IsNogood}
use Rattle.ips_refute.proofs.checking.are_nogoods.Given as goal

abbrev pub invariant-loop-i : goal.invariant-loop-i
invariant-loop-i g l = (k : ℕ) (n : Nogood) → k < l.i → slice_get l.nogoods k ≡ Some n → IsNogood (g.P.Puzzle.meaning l.puzzle) (take k l.nogoods) n
