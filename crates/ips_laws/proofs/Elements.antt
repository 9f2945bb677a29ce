-- What a list holds: its first element, or one behind it.
use Rattle.std.proofs.Common.{◌≡◌, ◌⊎◌, inl, inr, zero, suc, List, ◌∷◌, arith, Contains}

module _ {A : Type 0} where
  pub here_or_later : (s : A) (rest : List A) (x : A) → Contains (s ∷ rest) x → (s ≡ x) ⊎ Contains rest x
  here_or_later s rest x (zero, lt, is) = inl is
  here_or_later s rest x (suc k, lt, is) = inr (k, omega arith, is)

  pub first_of : (s : A) (rest : List A) (x : A) → s ≡ x → Contains (s ∷ rest) x
  first_of s rest x is = (0, omega arith, is)

  pub later_of : (s : A) (rest : List A) (x : A) → Contains rest x → Contains (s ∷ rest) x
  later_of s rest x (k, lt, is) = (suc k, omega arith, is)
