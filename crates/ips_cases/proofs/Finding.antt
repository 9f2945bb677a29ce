-- What the first row that passes a test says of how many pass it.
use Rattle.std.proofs.Common.{◌≡◌, ℕ, suc, ◌<◌, Bool, true, List, [], ◌∷◌, length, slice_index_or, Some, None, inl, inr, refl, arith}
use Rattle.std.specs.List.{count_by, find}
use Rattle.std.proofs.lemmas.Bool.{cases_Bool}

-- where none is found, none passes
pub none_passes : {X : Type 0} (p : X → Bool) (xs : List X) → find p xs ≡ None → count_by p xs ≡ 0
none_passes p [] h = refl
none_passes p (y ∷ ys) h =
    elim (cases_Bool (p y)) [
      | inl passes ↦ cc (rw passes at h)
      | inr fails ↦ rw fails (none_passes p ys (rw fails at h))
    ]

-- what is found stands in the list and passes
pub found_passes : {X : Type 0} (p : X → Bool) (xs : List X) (x : X) → find p xs ≡ Some x
    → (k : ℕ) × (k < length xs) × (slice_index_or xs k x ≡ x) × (p x ≡ true)
found_passes p [] x h = cc h
found_passes p (y ∷ ys) x h =
    elim (cases_Bool (p y)) [
      | inl passes ↦
          let same : y ≡ x = cc (rw passes at h) in
          (0, omega arith, same, rw (← same) passes)
      | inr fails ↦
          let rest = found_passes p ys x (rw fails at h) in
          (suc rest.0, omega (arith, rest.1), rest.2, rest.3)
    ]
