-- What stands at a place of two lists, one behind the other.
use Rattle.std.proofs.Common.{◌≡◌, ℕ, zero, suc, ◌+◌, ◌-◌, ◌<◌, ◌≤◌, List, [], ◌∷◌, ◌++◌, length, map, get_or, Some, ap, ap₂, ◌∙◌, arith}
use Rattle.std.specs.Prelude.{option_map, slice_get}
use Rattle.std.proofs.lemmas.List.{length-append, length-map}
use Rattle.std.proofs.lemmas.Option.{slice_get-get_or, slice_get-map}
use Rattle.ips_due.specs.Due.{Content}

-- a record's path, and its content
abbrev pub DueEntry : Type 0
DueEntry = List ℕ × Content

module _ {A B C : Type 0} (f : A → C) (g : B → C) where
  pub lengths : (xs : List A) (ys : List B) → length (map f xs ++ map g ys) ≡ length xs + length ys
  lengths xs ys = length-append (map f xs) (map g ys) ∙ ap₂ (λ (m n : ℕ). m + n) (length-map xs f) (length-map ys g)

  pub in_front : (xs : List A) (ys : List B) (n : ℕ) (x : A) → slice_get xs n ≡ Some x → slice_get (map f xs ++ map g ys) n ≡ Some (f x)
  in_front [] ys n x is = cc
  in_front (a ∷ xs) ys zero x is = ap (option_map f) is
  in_front (a ∷ xs) ys (suc n) x is = in_front xs ys n x is

  pub behind : (xs : List A) (ys : List B) (n : ℕ) (d : B) → length xs ≤ n → n < length xs + length ys → slice_get (map f xs ++ map g ys) n ≡ Some (g (get_or ys (n - length xs) d))
  behind [] ys n d le lt =
      let same : n ≡ n - 0 = omega arith in
      slice_get-map g ys n ∙ ap (option_map g) (slice_get-get_or ys n d (omega (arith, lt))) ∙ ap (λ (k : ℕ). Some (g (get_or ys k d))) same
  behind (x ∷ xs) ys zero d le lt = absurd (omega (arith, le))
  behind (x ∷ xs) ys (suc n) d le lt =
      let same : n - length xs ≡ suc n - suc (length xs) = omega arith in
      behind xs ys n d (omega (arith, le)) (omega (arith, lt)) ∙ ap (λ (k : ℕ). Some (g (get_or ys k d))) same
