-- The search for a path among entries in order.
use Rattle.std.proofs.Common.{◌≡◌, ◌+◌, ◌<◌, ◌≤◌, ◌∷◌, [], ℕ, zero, suc, List, length, get_or, Option, Some, None, refl, sym, ap, subst, ◌∙◌, inl, inr, arith}
use Rattle.std.specs.Prelude.{slice_get, IfNone}
use Rattle.std.specs.List.{Contains}
use Rattle.std.specs.Ordering.{nat_cmp, ordering_reverse}
use Rattle.std.specs.Cmp.Lexicographic.{slice_cmp}
use Rattle.std.specs.declared.cmp.Ordering.{Ordering}
use Rattle.std.specs.declared.cmp.Ordering.TheVariants.{Less, Equal, Greater}
use Rattle.std.proofs.lemmas.Bool.{cases_lt}
use Rattle.std.proofs.lemmas.Cmp.{tied_itself, nat_list_cmp_total}
use Rattle.std.proofs.lemmas.List.{length-map}
use Rattle.std.proofs.lemmas.Map.Keys.{Less-from_sorted}
use Rattle.std.proofs.lemmas.Map.Lookups.{exact_bytes}
use Rattle.ips_conflict.proofs.Places.{below_or_last}
use Rattle.ips_meaning.specs.declared.wanted.Wanted.{Wanted}
use Rattle.std.proofs.lemmas.Option.{same_Some}
use Rattle.std.proofs.lemmas.List.Elements.{Contains-append_right}
use Rattle.ips_meaning.specs.View.{paths_of, entries_of, AreByPath}

abbrev at : List Wanted → ℕ → List ℕ
at entries k = get_or (paths_of entries) k []

-- the path stands, if anywhere, behind what is below low and before high
pub record Between (entries : List Wanted) (path : List ℕ) (low high : ℕ) : Type 0 where
  pub ordered : low ≤ high
  pub within : high ≤ length entries
  pub below : (k : ℕ) → k < low → slice_cmp nat_cmp (at entries k) path ≡ Less
  pub above : (k : ℕ) → high ≤ k → k < length entries → slice_cmp nat_cmp (at entries k) path ≡ Greater

pub path_at : (entries : List Wanted) (i : ℕ) (w : Wanted) → i < length entries → w ≡ get_or entries i w → at entries i ≡ w.path.bytes
path_at [] i w lt e = absurd (omega arith)
path_at (x ∷ entries) zero w lt e = ap (λ (v : Wanted). v.path.bytes) (sym e)
path_at (x ∷ entries) (suc i) w lt e = path_at entries i w (omega (arith, lt)) e

pub path_there : (entries : List Wanted) (i : ℕ) (w : Wanted) → i < length entries → w ≡ get_or entries i w → at entries i ≡ (get_or entries i w).path.bytes
path_there entries i w lt e = path_at entries i w lt e ∙ ap (λ (v : Wanted). v.path.bytes) e

pub between_all : (entries : List Wanted) (path : List ℕ) → Between entries path 0 (length entries)
between_all entries path = record { ordered = omega arith; within = omega arith; below = λ k lt. absurd (omega (arith, lt)); above = λ k le lt. absurd (omega (arith, le, lt)) }

rising : (entries : List Wanted) (i j : ℕ) → AreByPath entries → i < j → j < length entries → slice_cmp nat_cmp (at entries i) (at entries j) ≡ Less
rising entries i j sorted lt within = Less-from_sorted (slice_cmp nat_cmp) (paths_of entries) i j [] sorted lt (subst (λ (n : ℕ). j < n) (sym (length-map entries (λ w. w.path.bytes))) within)

turned : (o : Ordering) → o ≡ Greater → ordering_reverse o ≡ Less
turned o e = ap ordering_reverse e

back : (o : Ordering) → o ≡ Less → ordering_reverse o ≡ Greater
back o e = ap ordering_reverse e

pub between_less : (entries : List Wanted) (path : List ℕ) (low high middle : ℕ) → AreByPath entries → Between entries path low high → middle < high → slice_cmp nat_cmp (at entries middle) path ≡ Less → Between entries path (middle + 1) high
between_less entries path low high middle sorted h lt less = record {
  ordered = omega arith;
  within = h.within;
  below = λ k small. elim (below_or_last k middle small) [
    | inl before ↦ nat_list_cmp_total.trans (at entries k) (at entries middle) path (rising entries k middle sorted before (omega (arith, h.within))) less
    | inr same ↦ subst (λ (n : ℕ). slice_cmp nat_cmp (at entries n) path ≡ Less) (sym same) less
  ];
  above = h.above;
}

pub between_more : (entries : List Wanted) (path : List ℕ) (low high middle : ℕ) → AreByPath entries → Between entries path low high → low ≤ middle → middle < high → slice_cmp nat_cmp (at entries middle) path ≡ Greater → Between entries path low middle
between_more entries path low high middle sorted h le lt more = record {
  ordered = le;
  within = omega (arith, h.within);
  below = h.below;
  above = λ k big within. elim (cases_lt middle k) [
    | inl behind ↦
        let first : slice_cmp nat_cmp path (at entries middle) ≡ Less = nat_list_cmp_total.antisymm path (at entries middle) ∙ turned (slice_cmp nat_cmp (at entries middle) path) more in
        let all : slice_cmp nat_cmp path (at entries k) ≡ Less = nat_list_cmp_total.trans path (at entries middle) (at entries k) first (rising entries middle k sorted behind within) in
        nat_list_cmp_total.antisymm (at entries k) path ∙ back (slice_cmp nat_cmp path (at entries k)) all
    | inr not ↦ let same : k ≡ middle = omega (arith, big, not) in subst (λ (n : ℕ). slice_cmp nat_cmp (at entries n) path ≡ Greater) (sym same) more
  ];
}

look : (l : List (List ℕ)) (i : ℕ) → i < length l → slice_get l i ≡ Some (get_or l i [])
look [] i lt = absurd (omega arith)
look (x ∷ l) zero lt = refl
look (x ∷ l) (suc i) lt = look l i (omega (arith, lt))

pub found_equal : (entries : List Wanted) (path : List ℕ) (i : ℕ) → i < length entries → slice_cmp nat_cmp (at entries i) path ≡ Equal → slice_get (paths_of entries) i ≡ Some path
found_equal entries path i lt e =
    look (paths_of entries) i (subst (λ (n : ℕ). i < n) (sym (length-map entries (λ w. w.path.bytes))) lt) ∙ ap (λ (p : List ℕ). Some p) (exact_bytes (at entries i) path e)

place : (l : List (List ℕ)) (path : List ℕ) (k : ℕ) → k < length l → get_or l k path ≡ path → get_or l k [] ≡ path
place [] path k lt e = absurd (omega arith)
place (x ∷ l) path zero lt e = e
place (x ∷ l) path (suc k) lt e = place l path k (omega (arith, lt)) e

pub found_none : (entries : List Wanted) (path : List ℕ) (low high : ℕ) → Between entries path low high → high ≤ low → Contains (paths_of entries) path → ⊥
found_none entries path low high h le w =
    let within : w.0 < length entries = subst (λ (n : ℕ). w.0 < n) (length-map entries (λ x. x.path.bytes)) w.1 in
    let same : at entries w.0 ≡ path = place (paths_of entries) path w.0 w.1 w.2 in
    let tie : slice_cmp nat_cmp (at entries w.0) path ≡ Equal = ap (λ (p : List ℕ). slice_cmp nat_cmp p path) same ∙ tied_itself nat_list_cmp_total path in
    elim (cases_lt w.0 low) [
      | inl small ↦ let l : Less ≡ Equal = sym (h.below w.0 small) ∙ tie in absurd cc
      | inr big ↦ let g : Greater ≡ Equal = sym (h.above w.0 (omega (arith, big)) within) ∙ tie in absurd cc
    ]

-- what stands at the place that was found
pub holds : (entries : List Wanted) (path : List ℕ) (i : ℕ) (w : Wanted) → slice_get (paths_of entries) i ≡ Some path → i < length entries → w ≡ get_or entries i w → Contains (entries_of entries) (path, w.entry)
holds [] path i w look lt e = absurd (omega arith)
holds (x ∷ entries) path zero w look lt e = (0, omega arith, λ j. (same_Some x.path.bytes path look j, ap (λ (v : Wanted). v.entry) (sym e) j))
holds (x ∷ entries) path (suc i) w look lt e = Contains-append_right ((x.path.bytes, x.entry) ∷ []) (entries_of entries) (path, w.entry) (holds entries path i w look (omega (arith, lt)) e)

pub if_none : {A : Type 0} (o : Option A) (P : Type 0) → P → IfNone o P
if_none None P h = h
if_none (Some x) P h = tt
