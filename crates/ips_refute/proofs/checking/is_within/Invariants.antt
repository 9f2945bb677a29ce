use Rattle.std.proofs.Common.{ℕ, ◌<◌, ◌≤◌, ◌∷◌, Contains, get_or, length}
use Rattle.ips_refute.specs.declared.nogoods.Pair.{Pair}
use Rattle.ips_refute.proofs.checking.is_within.Given as goal

abbrev pub invariant-loop-q : goal.invariant-loop-q
invariant-loop-q l = (l.from ≤ length l.set) × ((k : ℕ) (d : Pair) → k < l.q-index → Contains (l.more ∷ l.set) (get_or l.few k d))
