-- The search for a path among paths in order.
use Rattle.std.proofs.Common.{◌≡◌, ◌+◌, ◌<◌, ◌≤◌, ◌∷◌, [], ℕ, zero, suc, Bool, false, ◌||◌, List, length, get_or, Some, refl, sym, ap, subst, ◌∙◌, inl, inr, arith}
use Rattle.std.specs.Prelude.{slice_get}
use Rattle.std.specs.List.Sorted.{IsStrictlySortedBy}
use Rattle.std.specs.Ordering.{nat_cmp, ordering_reverse}
use Rattle.std.specs.Cmp.Lexicographic.{slice_cmp}
use Rattle.std.specs.declared.cmp.Ordering.TheVariants.{Less, Equal, Greater}
use Rattle.std.proofs.lemmas.Bool.{cases_lt, cases_Bool}
use Rattle.std.proofs.lemmas.Cmp.{tied_itself, nat_list_cmp_total}
use Rattle.std.proofs.lemmas.Map.Keys.{Less-from_sorted}
use Rattle.std.proofs.lemmas.Map.Lookups.{exact_bytes}
use Rattle.std.proofs.lemmas.Option.{slice_get-get_or}
use Rattle.ips_text.specs.Ancestry.{same_path}
use Rattle.ips_text.proofs.Ancestry.{same_path-true}
use Rattle.ips_conflict.proofs.Places.{below_or_last}
use Rattle.ips_after.specs.Lists.{listed}
use Rattle.ips_change.specs.declared.survey.row.Row.{Row}
use Rattle.ips_change.specs.survey.Marks.{row_paths}

abbrev at : List Row → ℕ → List ℕ
at rows k = get_or (row_paths rows) k []

pub count : (rows : List Row) → length (row_paths rows) ≡ length rows
count [] = refl
count (row ∷ rows) = ap suc (count rows)

-- the path stands, if anywhere, behind what is below low and before high
pub record Between (rows : List Row) (path : List ℕ) (low high : ℕ) : Type 0 where
  pub ordered : low ≤ high
  pub within : high ≤ length rows
  pub below : (k : ℕ) → k < low → slice_cmp nat_cmp (at rows k) path ≡ Less
  pub above : (k : ℕ) → high ≤ k → k < length rows → slice_cmp nat_cmp (at rows k) path ≡ Greater

pub path_at : (rows : List Row) (i : ℕ) (row : Row) → i < length rows → row ≡ get_or rows i row → at rows i ≡ row.path.now.bytes
path_at [] i row lt e = absurd (omega arith)
path_at (x ∷ rows) zero row lt e = ap (λ (r : Row). r.path.now.bytes) (sym e)
path_at (x ∷ rows) (suc i) row lt e = path_at rows i row (omega (arith, lt)) e

pub between_all : (rows : List Row) (path : List ℕ) → Between rows path 0 (length rows)
between_all rows path = record { ordered = omega arith; within = omega arith; below = λ k lt. absurd (omega (arith, lt)); above = λ k le lt. absurd (omega (arith, le, lt)) }

rising : (rows : List Row) (i j : ℕ) → IsStrictlySortedBy (slice_cmp nat_cmp) (row_paths rows) → i < j → j < length rows → slice_cmp nat_cmp (at rows i) (at rows j) ≡ Less
rising rows i j sorted lt within = Less-from_sorted (slice_cmp nat_cmp) (row_paths rows) i j [] sorted lt (subst (λ (n : ℕ). j < n) (sym (count rows)) within)

pub between_less : (rows : List Row) (path : List ℕ) (low high middle : ℕ) → IsStrictlySortedBy (slice_cmp nat_cmp) (row_paths rows) → Between rows path low high → middle < high → slice_cmp nat_cmp (at rows middle) path ≡ Less → Between rows path (middle + 1) high
between_less rows path low high middle sorted h lt less = record {
  ordered = omega arith;
  within = h.within;
  below = λ k small. elim (below_or_last k middle small) [
    | inl before ↦ nat_list_cmp_total.trans (at rows k) (at rows middle) path (rising rows k middle sorted before (omega (arith, h.within))) less
    | inr same ↦ subst (λ (n : ℕ). slice_cmp nat_cmp (at rows n) path ≡ Less) (sym same) less
  ];
  above = h.above;
}

pub between_more : (rows : List Row) (path : List ℕ) (low high middle : ℕ) → IsStrictlySortedBy (slice_cmp nat_cmp) (row_paths rows) → Between rows path low high → low ≤ middle → middle < high → slice_cmp nat_cmp (at rows middle) path ≡ Greater → Between rows path low middle
between_more rows path low high middle sorted h le lt more = record {
  ordered = le;
  within = omega (arith, h.within);
  below = h.below;
  above = λ k big within. elim (cases_lt middle k) [
    | inl behind ↦
        let first : slice_cmp nat_cmp path (at rows middle) ≡ Less = nat_list_cmp_total.antisymm path (at rows middle) ∙ ap ordering_reverse more in
        let all : slice_cmp nat_cmp path (at rows k) ≡ Less = nat_list_cmp_total.trans path (at rows middle) (at rows k) first (rising rows middle k sorted behind within) in
        nat_list_cmp_total.antisymm (at rows k) path ∙ ap ordering_reverse all
    | inr not ↦ let same : k ≡ middle = omega (arith, big, not) in subst (λ (n : ℕ). slice_cmp nat_cmp (at rows n) path ≡ Greater) (sym same) more
  ];
}

pub found_equal : (rows : List Row) (path : List ℕ) (i : ℕ) → i < length rows → slice_cmp nat_cmp (at rows i) path ≡ Equal → slice_get (row_paths rows) i ≡ Some path
found_equal rows path i lt e =
    slice_get-get_or (row_paths rows) i [] (subst (λ (n : ℕ). i < n) (sym (count rows)) lt) ∙ ap (λ (p : List ℕ). Some p) (exact_bytes (at rows i) path e)

none_listed : (paths : List (List ℕ)) (path : List ℕ) → ((k : ℕ) → k < length paths → slice_cmp nat_cmp (get_or paths k []) path ≡ Equal → ⊥) → listed paths path ≡ false
none_listed [] path never = refl
none_listed (p ∷ paths) path never = elim (cases_Bool (same_path p path)) [
  | inl same ↦ absurd (never 0 (omega arith) (ap (λ (q : List ℕ). slice_cmp nat_cmp q path) (same_path-true p path same) ∙ tied_itself nat_list_cmp_total path))
  | inr apart ↦ ap (λ (b : Bool). b || listed paths path) apart ∙ none_listed paths path (λ k lt. never (suc k) (omega (arith, lt)))
]

pub found_none : (rows : List Row) (path : List ℕ) (low high : ℕ) → Between rows path low high → high ≤ low → listed (row_paths rows) path ≡ false
found_none rows path low high h le = none_listed (row_paths rows) path (λ k lt tie.
    let within : k < length rows = subst (λ (n : ℕ). k < n) (count rows) lt in
    elim (cases_lt k low) [
      | inl small ↦ let l : Less ≡ Equal = sym (h.below k small) ∙ tie in absurd cc
      | inr big ↦ let g : Greater ≡ Equal = sym (h.above k (omega (arith, big)) within) ∙ tie in absurd cc
    ])
