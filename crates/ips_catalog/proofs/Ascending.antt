-- Ascending lists of the same elements are one list, and what is put at its place only moves.
use Rattle.std.proofs.Common.{◌≡◌, zero, suc, false, ◌||◌, List, [], ◌∷◌, ◌++◌, Ordering, Less, Equal, Greater, refl, sym, ap, subst, ◌∙◌, arith, inl, inr, ◌⊎◌}
use Rattle.std.specs.List.{AllByRecursion, Contains, list_any, IsDistinct}
use Rattle.std.specs.List.Sorted.{IsStrictlySortedBy, IsPermutation}
use Rattle.std.specs.Cmp.{IsTotalOrder}
use Rattle.std.specs.Ordering.{match_ordering, ordering_reverse, is_eq, eq_by_cmp}
use Rattle.std.specs.BTreeSet.{insert_key}
use Rattle.std.proofs.lemmas.Cmp.{tied_itself, eq_by_cmp_equiv}
use Rattle.std.proofs.lemmas.Map.Keys.{sorted_head, sorted_tail, IsDistinct-from_sorted, IsDistinct-head, IsDistinct-tail, IsDistinct-IsPermutation}
use Rattle.std.proofs.lemmas.List.Sorted.{IsPermutation-refl, IsPermutation-sym, IsPermutation-cons, IsPermutation-trans, IsPermutation-middle, IsPermutation-append_left, Contains-permutation}

-- an element is the first, or one of the others
contains_cases : {K : Type 0} (x : K) (xs : List K) (q : K) → Contains (x ∷ xs) q → (x ≡ q) ⊎ Contains xs q
contains_cases x xs q (zero, within, is) = inl is
contains_cases x xs q (suc k, within, is) = inr (k, omega arith, is)

contains_first : {K : Type 0} (x : K) (xs : List K) → Contains (x ∷ xs) x
contains_first x xs = (zero, omega arith, refl)

contains_later : {K : Type 0} (x : K) (xs : List K) (q : K) → Contains xs q → Contains (x ∷ xs) q
contains_later x xs q (k, within, is) = (suc k, omega arith, is)

contains_none : {K : Type 0} (q : K) → Contains {X = K} [] q → ⊥
contains_none q (k, within, is) = omega arith

all_contained : {K : Type 0} (P : K → Type 0) (xs : List K) (q : K) → AllByRecursion P xs → Contains xs q → P q
all_contained P [] q all h = absurd (contains_none q h)
all_contained P (x ∷ xs) q all h = elim (contains_cases x xs q h) [ inl is ↦ subst P is all.0 | inr more ↦ all_contained P xs q all.1 more ]

module _ {K : Type 0} {R : K → K → Ordering} (total : IsTotalOrder R) where
  not_below_itself : (x : K) → R x x ≡ Less → ⊥
  not_below_itself x less = let equal = tied_itself total x in cc

  not_both_below : (x y : K) → R x y ≡ Less → R y x ≡ Less → ⊥
  not_both_below x y less back = let e = total.antisymm x y ∙ ap ordering_reverse back in cc

  -- the first of an ascending list that holds the other's first isn't above it
  heads_same : (x : K) (xs : List K) (y : K) (ys : List K) → IsStrictlySortedBy R (x ∷ xs) → IsStrictlySortedBy R (y ∷ ys) → Contains (y ∷ ys) x → Contains (x ∷ xs) y → x ≡ y
  heads_same x xs y ys up_x up_y has_x has_y =
      elim (contains_cases y ys x has_x) [
        | inl is ↦ sym is
        | inr later_x ↦ elim (contains_cases x xs y has_y) [
          | inl is ↦ is
          | inr later_y ↦ absurd (not_both_below x y (all_contained (λ z. R x z ≡ Less) xs y (sorted_head R x xs up_x) later_y) (all_contained (λ z. R y z ≡ Less) ys x (sorted_head R y ys up_y) later_x))
        ]
      ]

  -- what stands behind the first in one stands behind it in the other
  tails_hold : (x : K) (xs : List K) (y : K) (ys : List K) → IsStrictlySortedBy R (x ∷ xs) → x ≡ y → ((q : K) → Contains (x ∷ xs) q → Contains (y ∷ ys) q) → (q : K) → Contains xs q → Contains ys q
  tails_hold x xs y ys up same has q h =
      elim (contains_cases y ys q (has q (contains_later x xs q h))) [
        | inl is ↦ absurd (not_below_itself x (subst (λ (z : K). R x z ≡ Less) (sym (same ∙ is)) (all_contained (λ z. R x z ≡ Less) xs q (sorted_head R x xs up) h)))
        | inr later ↦ later
      ]

  same_elements : (xs ys : List K) → IsStrictlySortedBy R xs → IsStrictlySortedBy R ys → ((q : K) → Contains xs q → Contains ys q) → ((q : K) → Contains ys q → Contains xs q) → xs ≡ ys
  same_elements [] [] up_x up_y there back = refl
  same_elements [] (y ∷ ys) up_x up_y there back = absurd (contains_none y (back y (contains_first y ys)))
  same_elements (x ∷ xs) [] up_x up_y there back = absurd (contains_none x (there x (contains_first x xs)))
  same_elements (x ∷ xs) (y ∷ ys) up_x up_y there back =
      let same = heads_same x xs y ys up_x up_y (there x (contains_first x xs)) (back y (contains_first y ys)) in
      let rest = same_elements xs ys (sorted_tail R x xs up_x) (sorted_tail R y ys up_y) (tails_hold x xs y ys up_x same there) (tails_hold y ys x xs up_y (sym same) back) in
      ap (λ (z : K). z ∷ xs) same ∙ ap (λ (zs : List K). y ∷ zs) rest

  pub ascending_one : (xs ys : List K) → IsStrictlySortedBy R xs → IsStrictlySortedBy R ys → IsPermutation xs ys → xs ≡ ys
  ascending_one xs ys up_x up_y moved =
      same_elements xs ys up_x up_y (λ q. Contains-permutation xs ys q moved) (λ q. Contains-permutation ys xs q (IsPermutation-sym xs ys moved))

  -- a new element that is put at its place
  put_moves : (xs : List K) (k : K) → list_any (λ other. is_eq (R k other)) xs ≡ false → IsPermutation (k ∷ xs) (insert_key R xs k)
  put_moves [] k new = IsPermutation-refl (k ∷ [])
  put_moves (x ∷ xs) k new = by (R k x) new (put_moves xs k)
    where
      by : (o : Ordering) → (is_eq o || list_any (λ other. is_eq (R k other)) xs) ≡ false → (list_any (λ other. is_eq (R k other)) xs ≡ false → IsPermutation (k ∷ xs) (insert_key R xs k)) → IsPermutation (k ∷ x ∷ xs) (match_ordering o (k ∷ x ∷ xs) (x ∷ xs) (x ∷ insert_key R xs k))
      by Less none more = IsPermutation-refl (k ∷ x ∷ xs)
      by Equal none more = absurd cc
      by Greater none more =
          IsPermutation-trans (k ∷ x ∷ xs) (x ∷ k ∷ xs) (x ∷ insert_key R xs k) (IsPermutation-sym (x ∷ k ∷ xs) (k ∷ x ∷ xs) (IsPermutation-middle (x ∷ []) k xs)) (IsPermutation-cons x (k ∷ xs) (insert_key R xs k) (more none))

  -- the same where others follow
  pub put_before : (xs : List K) (k : K) (more : List K) → list_any (λ other. is_eq (R k other)) xs ≡ false → IsPermutation (xs ++ k ∷ more) (insert_key R xs k ++ more)
  put_before xs k more new =
      IsPermutation-trans (xs ++ k ∷ more) (k ∷ (xs ++ more)) (insert_key R xs k ++ more) (IsPermutation-middle xs k more) (IsPermutation-append_left more (k ∷ xs) (insert_key R xs k) (put_moves xs k new))

  flips : (x y : K) → eq_by_cmp R x y ≡ eq_by_cmp R y x
  flips = (eq_by_cmp_equiv total).symm

  all_middle : (P : K → Type 0) (xs : List K) (k : K) (more : List K) → AllByRecursion P (xs ++ k ∷ more) → P k
  all_middle P [] k more all = all.0
  all_middle P (x ∷ xs) k more all = all_middle P xs k more all.1

  apart : (xs : List K) (k : K) (more : List K) → IsDistinct (eq_by_cmp R) (xs ++ k ∷ more) → list_any (λ other. is_eq (R k other)) xs ≡ false
  apart [] k more distinct = refl
  apart (x ∷ xs) k more distinct =
      rw (flips k x ∙ all_middle (λ y. eq_by_cmp R x y ≡ false) xs k more (IsDistinct-head (eq_by_cmp R) x (xs ++ k ∷ more) distinct)) (apart xs k more (IsDistinct-tail (eq_by_cmp R) x (xs ++ k ∷ more) distinct))

  -- of elements that an ascending list has, none stands twice
  pub none_before : (xs : List K) (k : K) (more ys : List K) → IsStrictlySortedBy R ys → IsPermutation (xs ++ k ∷ more) ys → list_any (λ other. is_eq (R k other)) xs ≡ false
  none_before xs k more ys up moved = apart xs k more (IsDistinct-IsPermutation (eq_by_cmp R) flips ys (xs ++ k ∷ more) (IsPermutation-sym (xs ++ k ∷ more) ys moved) (IsDistinct-from_sorted R ys up))
