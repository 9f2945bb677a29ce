-- The first items of lists, one by one, and the last ones.
use Rattle.std.proofs.Common.{◌≡◌, ℕ, zero, suc, ◌+◌, ◌-◌, ◌<◌, List, [], ◌∷◌, ◌++◌, length, take, drop, take_all, map, slice_get, Option, Some, None, refl, ap, subst, ◌∙◌, inl, inr, arith, length-drop}
use Rattle.std.proofs.lemmas.Bool.{cases_lt}
use Rattle.std.proofs.lemmas.List.{take-append-le, append-nil, length-map}
use Rattle.std.proofs.lemmas.Option.{none-some, same_Some}
use Rattle.ips_problem.specs.Posed.{Offer, StemRow, count_at, version_at, version_of}
use Rattle.ips_next.specs.Tried.{Tried, offered, offered_in, tried_rows}

front_suc : {X : Type 0} (xs : List X) (n : ℕ) (x : X) → slice_get xs n ≡ Some x → take (suc n) xs ≡ take n xs ++ x ∷ []
front_suc [] n x is = cc
front_suc (y ∷ xs) zero x is = let one : y ≡ x = cc in ap (λ (z : _). z ∷ []) one
front_suc (y ∷ xs) (suc n) x is = ap (λ (l : List _). y ∷ l) (front_suc xs n x is)

-- one item more
pub front_more : {X : Type 0} (xs : List X) (n : ℕ) (x : X) → slice_get xs n ≡ Some x → take (n + 1) xs ≡ take n xs ++ x ∷ []
front_more xs n x is = let one : suc n ≡ n + 1 = omega arith in subst (λ (k : ℕ). take k xs ≡ take n xs ++ x ∷ []) one (front_suc xs n x is)

-- ---- what there is to try

abbrev pub tried_at : List ℕ → Option StemRow → Tried
tried_at stem row = record { stem = stem; candidates = offered_in row }

pub tried_there : (stems : List (List ℕ)) (rows : List StemRow) (i : ℕ) (stem : List ℕ) → slice_get stems i ≡ Some stem → slice_get (tried_rows stems rows) i ≡ Some (tried_at stem (slice_get rows i))
tried_there [] rows i stem at = absurd (none-some stem at)
tried_there (s ∷ stems) [] zero stem at = ap (λ (x : List ℕ). Some (tried_at x None)) (same_Some s stem at)
tried_there (s ∷ stems) [] (suc i) stem at = tried_there stems [] i stem at
tried_there (s ∷ stems) (row ∷ rows) zero stem at = ap (λ (x : List ℕ). Some (tried_at x (Some row))) (same_Some s stem at)
tried_there (s ∷ stems) (row ∷ rows) (suc i) stem at = tried_there stems rows i stem at

pub as_many_tried : (stems : List (List ℕ)) (rows : List StemRow) → length (tried_rows stems rows) ≡ length stems
as_many_tried [] rows = refl
as_many_tried (s ∷ stems) [] = let rest = as_many_tried stems [] in omega (arith, rest)
as_many_tried (s ∷ stems) (row ∷ rows) = let rest = as_many_tried stems rows in omega (arith, rest)

version_there : (os : List (Option Offer)) (k : ℕ) → k < length os → slice_get (map offered os) k ≡ Some (version_of (slice_get os k))
version_there [] k less = absurd (omega arith)
version_there (None ∷ os) zero less = refl
version_there (Some o ∷ os) zero less = refl
version_there (o ∷ os) (suc k) less = version_there os k (omega arith)

pub candidate_there : (row : Option StemRow) (k : ℕ) → k < count_at row → slice_get (offered_in row) k ≡ Some (version_at row (Some k))
candidate_there None k less = absurd (omega arith)
candidate_there (Some row) k less = version_there row.candidates k less

pub as_many_offered : (row : Option StemRow) → length (offered_in row) ≡ count_at row
as_many_offered None = refl
as_many_offered (Some row) = length-map row.candidates offered

-- ---- the last items

moved : {X : Type 0} (xs : List X) (most excess : ℕ) → excess ≡ length xs - most → take most (drop excess xs ++ take excess xs) ≡ drop excess xs
moved xs most excess is = elim (cases_lt (length xs) most) [
  | inl few ↦
      let none : 0 ≡ excess = omega arith in
      subst (λ (e : ℕ). take most (drop e xs ++ take e xs) ≡ drop e xs) none (ap (take most) (append-nil xs) ∙ take_all most xs (omega arith))
  | inr many ↦
      let long = length-drop excess xs in
      take-append-le most (drop excess xs) (take excess xs) (omega (arith, long)) ∙ take_all most (drop excess xs) (omega (arith, long))
]

-- what is kept where the items before the last ones are moved behind them and cut off
pub last_kept : {X : Type 0} (xs : List X) (most excess : ℕ) → excess ≡ length xs - most → take most (drop excess xs ++ take excess xs) ≡ drop (length xs - most) xs
last_kept xs most excess is = moved xs most excess is ∙ ap (λ (n : ℕ). drop n xs) is
