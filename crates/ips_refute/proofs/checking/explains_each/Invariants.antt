use Rattle.std.proofs.Common.{◌≡◌, ℕ, ◌<◌, ◌∷◌, Some, slice_get}
use Rattle.ips_refute.specs.declared.nogoods.Reason.{Reason}
use Rattle.ips_refute.specs.Refuting.{Explains}
use Rattle.ips_refute.proofs.checking.explains_each.Given as goal

abbrev pub invariant-loop-candidate : goal.invariant-loop-candidate
invariant-loop-candidate g l = (c : ℕ) (r : Reason) → c < l.candidate → slice_get l.reasons c ≡ Some r → Explains (g.P.Puzzle.meaning l.puzzle) l.earlier (record { stem = l.stem; candidate = c } ∷ l.set) r
