-- Places in a list.
use Rattle.std.proofs.Common.{◌≡◌, ℕ, ◌<◌, ◌≤◌, ◌⊎◌, List, [], ◌∷◌, ◌++◌, ◌+◌, length, get_or, Option, Some, sym, ap, subst, ◌∙◌, inl, inr, arith}
use Rattle.std.specs.Prelude.{◌↔◌, slice_get}
use Rattle.std.specs.List.{Contains}
use Rattle.std.proofs.lemmas.List.Elements.{Contains-append_left, Contains-push, Contains-push_cases}
use Rattle.std.proofs.lemmas.Bool.{cases_lt}
use Rattle.std.proofs.lemmas.Option.{slice_get-get_or}

-- what an index gives, as a look-up
pub at_index : {X : Type 0} (xs : List X) (i : ℕ) (x : X) → i < length xs → x ≡ get_or xs i x → slice_get xs i ≡ Some x
at_index xs i x lt e = slice_get-get_or xs i x lt ∙ ap (λ (y : _). Some y) (sym e)

-- a place has one value
pub one_there : {X : Type 0} (xs : List X) (i : ℕ) (x y : X) → slice_get xs i ≡ Some x → slice_get xs i ≡ Some y → x ≡ y
one_there {X} xs i x y e f = let o : (let v : Option X = Some x in v) ≡ Some y = sym e ∙ f in cc

-- below one more is below, or the last
pub below_or_last : (i k : ℕ) → i < k + 1 → (i < k) ⊎ (i ≡ k)
below_or_last i k lt = elim (cases_lt i k) [ inl h ↦ inl h | inr h ↦ inr (omega (arith, h, lt)) ]

-- ---- a list of all places below a number

pub none_there : (l : List ℕ) (j : ℕ) → l ≡ [] → Contains l j ↔ (j < 0)
none_there l j e = (λ w. absurd (omega (arith, w.1, ap length e)), λ lt. absurd (omega arith))

pub one_more_there : (old new : List ℕ) (i j : ℕ) → new ≡ old ++ i ∷ [] → Contains old j ↔ (j < i) → Contains new j ↔ (j < i + 1)
one_more_there old new i j e so_far =
    subst (λ (l : List ℕ). Contains l j ↔ (j < i + 1)) (sym e) (
      λ w. elim (Contains-push_cases old i j w) [ inl had ↦ let lt = so_far.0 had in omega (arith, lt) | inr same ↦ omega (arith, same) ],
      λ lt. elim (below_or_last j i lt) [ inl below ↦ Contains-append_left old (i ∷ []) j (so_far.1 below) | inr same ↦ subst (λ (k : ℕ). Contains (old ++ i ∷ []) k) (sym same) (Contains-push old i) ],
    )

pub all_there : (l : List ℕ) (i n j : ℕ) → i ≤ n → n ≤ i → Contains l j ↔ (j < i) → Contains l j ↔ (j < n)
all_there l i n j le ge h = (λ w. let lt = h.0 w in omega (arith, lt), λ lt. h.1 (omega (arith, lt)))
