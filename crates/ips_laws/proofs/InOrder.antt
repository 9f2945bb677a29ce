-- Paths in the order of their bytes are one list.
use Rattle.std.proofs.Common.{◌≡◌, ℕ, List, [], ◌∷◌, map, refl, sym, ap, subst, ◌∙◌, inl, inr, arith, Contains}
use Rattle.std.specs.List.Sorted.{IsStrictlySortedBy}
use Rattle.std.specs.Ordering.{nat_cmp, ordering_reverse}
use Rattle.std.specs.Cmp.Lexicographic.{slice_cmp}
use Rattle.std.specs.declared.cmp.Ordering.TheVariants.{Less}
use Rattle.std.proofs.lemmas.Cmp.{nat_list_cmp_total}
use Rattle.std.proofs.lemmas.List.Elements.{All-contains, All-from_recursion}
use Rattle.std.proofs.lemmas.Map.Keys.{sorted_head, sorted_tail}
use Rattle.ips_meaning.specs.declared.entry.Entry.{Entry}
use Rattle.ips_laws.proofs.Elements.{here_or_later, first_of, later_of}
use Rattle.ips_text.proofs.Orders.{one_way}

abbrev Ascend : List (List ℕ) → Type 0
Ascend paths = IsStrictlySortedBy (slice_cmp nat_cmp) paths

-- the first path stands before each other one
before : (x : List ℕ) (xs : List (List ℕ)) → Ascend (x ∷ xs) → (z : List ℕ) → Contains xs z → slice_cmp nat_cmp x z ≡ Less
before x xs up z one =
    All-contains (λ (y : List ℕ). slice_cmp nat_cmp x y ≡ Less) xs z
    (All-from_recursion (λ (y : List ℕ). slice_cmp nat_cmp x y ≡ Less) xs (sorted_head (slice_cmp nat_cmp) x xs up)) one

same_head : (x y : List ℕ) (xs ys : List (List ℕ)) → Ascend (x ∷ xs) → Ascend (y ∷ ys) → Contains (y ∷ ys) x → Contains (x ∷ xs) y → x ≡ y
same_head x y xs ys up rising here there = elim (here_or_later y ys x here) [
  | inl same ↦ sym same
  | inr later ↦ elim (here_or_later x xs y there) [
    | inl same ↦ same
    | inr back ↦ absurd (one_way x y (before x xs up y back) (before y ys rising x later))
  ]
]

-- what stands behind the first path of one list stands behind that of the other
behind : (x y : List ℕ) (xs ys : List (List ℕ)) → Ascend (x ∷ xs) → x ≡ y → ((p : List ℕ) → Contains (x ∷ xs) p → Contains (y ∷ ys) p) → (p : List ℕ) → Contains xs p → Contains ys p
behind x y xs ys up first all p one = elim (here_or_later y ys p (all p (later_of x xs p one))) [
  | inl same ↦
      let less : slice_cmp nat_cmp x x ≡ Less = subst (λ (z : List ℕ). slice_cmp nat_cmp x z ≡ Less) (sym (first ∙ same)) (before x xs up p one) in
      absurd (one_way x x less less)
  | inr later ↦ later
]

pub same_paths : (xs ys : List (List ℕ)) → Ascend xs → Ascend ys → ((p : List ℕ) → Contains xs p → Contains ys p) → ((p : List ℕ) → Contains ys p → Contains xs p) → xs ≡ ys
same_paths [] [] up rising to from = refl
same_paths [] (y ∷ ys) up rising to from = let one = from y (first_of y ys y refl) in absurd (omega (arith, one.1))
same_paths (x ∷ xs) [] up rising to from = let one = to x (first_of x xs x refl) in absurd (omega (arith, one.1))
same_paths (x ∷ xs) (y ∷ ys) up rising to from =
    let first = same_head x y xs ys up rising (to x (first_of x xs x refl)) (from y (first_of y ys y refl)) in
    let rest = same_paths xs ys (sorted_tail (slice_cmp nat_cmp) x xs up) (sorted_tail (slice_cmp nat_cmp) y ys rising) (behind x y xs ys up first to) (behind y x ys xs rising (sym first) from) in
    λ i. first i ∷ rest i
