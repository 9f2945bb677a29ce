-- Texts of the items of a list, one item more.
use Rattle.std.proofs.Common.{◌≡◌, ℕ, zero, suc, ◌+◌, List, [], ◌∷◌, ◌++◌, take, slice_get, Some, refl, sym, ◌∙◌, ap, subst, arith}
use Rattle.std.specs.List.{flat_map}
use Rattle.std.proofs.lemmas.List.{append-nil, append_assoc}

module _ {X : Type 0} (f : X → List ℕ) where
  item_next : (xs : List X) (i : ℕ) (x : X) → slice_get xs i ≡ Some x → flat_map f (take (suc i) xs) ≡ flat_map f (take i xs) ++ f x
  item_next [] i x is = cc
  item_next (y ∷ xs) zero x is = let one : y ≡ x = cc in append-nil (f y) ∙ ap f one
  item_next (y ∷ xs) (suc i) x is = ap (λ (l : List ℕ). f y ++ l) (item_next xs i x is) ∙ sym (append_assoc (f y) (flat_map f (take i xs)) (f x))

  -- the texts of the first items, and that of the next
  pub item_more : (xs : List X) (i : ℕ) (x : X) → slice_get xs i ≡ Some x → flat_map f (take (i + 1) xs) ≡ flat_map f (take i xs) ++ f x
  item_more xs i x is = let one : suc i ≡ i + 1 = omega arith in subst (λ (k : ℕ). flat_map f (take k xs) ≡ flat_map f (take i xs) ++ f x) one (item_next xs i x is)
