-- Chains of items in order.
use Rattle.std.proofs.Common.{◌≡◌, ℕ, List, [], ◌∷◌, map}
use Rattle.std.specs.List.{AllByRecursion}
use Rattle.std.specs.List.Sorted.{IsStrictlySortedBy}
use Rattle.std.specs.Ordering.{nat_cmp}
use Rattle.std.specs.declared.cmp.Ordering.TheVariants.{Less}
use Rattle.std.specs.Cmp.{nat_cmp_total}
use Rattle.std.specs.Cmp.Lexicographic.{slice_cmp, lists_total}
use Rattle.ips_records.specs.Listed.{Chain}
use Rattle.ips_state.specs.State.{Ascend}

-- the first key stands before the second
abbrev pub IsBefore : List ℕ → List ℕ → Type 0
IsBefore a b = slice_cmp nat_cmp a b ≡ Less

module _ {A : Type 0} (key : A → List ℕ) where
  all_behind : (a b : List ℕ) (keys : List (List ℕ)) → IsBefore a b → AllByRecursion (IsBefore b) keys → AllByRecursion (IsBefore a) keys
  all_behind a b [] ab all = tt
  all_behind a b (k ∷ keys) ab all = ((lists_total nat_cmp_total).trans a b k ab all.0, all_behind a b keys ab all.1)

  pub ascends : (items : List A) → Chain (λ x y. IsBefore (key x) (key y)) items → Ascend (map key items)
  unfolding IsStrictlySortedBy
  ascends [] chain = tt
  ascends (x ∷ []) chain = (tt, tt)
  ascends (x ∷ y ∷ items) chain =
      let later = ascends (y ∷ items) chain.1 in
      ((chain.0, all_behind (key x) (key y) (map key items) chain.0 later.0), later)

  pub chains : (items : List A) → Ascend (map key items) → Chain (λ x y. IsBefore (key x) (key y)) items
  unfolding IsStrictlySortedBy
  chains [] order = tt
  chains (x ∷ []) order = tt
  chains (x ∷ y ∷ items) order = (order.0.0, chains (y ∷ items) order.1)
