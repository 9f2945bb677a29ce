-- The first line that passes a test, found at a place that is told.
use Rattle.std.proofs.Common.{◌≡◌, ℕ, zero, suc, ◌+◌, ◌<◌, ◌≤◌, Bool, true, false, not, cond, ◌||◌, eqb, ltb, List, [], ◌∷◌, length, get_or, Option, Some, None, slice_get, refl, sym, ap, ◌∙◌, arith}
use Rattle.std.specs.List.{list_any, find, position, position_or_len}
use Rattle.std.specs.Option.{option_map_or}
use Rattle.std.proofs.lemmas.Bool.{true≢false, or_parts, eqb-true, lt-ltb}
use Rattle.std.proofs.lemmas.Bool.Decides.{nat_tests}
use Rattle.std.proofs.lemmas.List.Folds.{find_at}
use Rattle.std.proofs.lemmas.Option.{cond_some, slice_get-get_or, slice_get_past}
use Rattle.std.proofs.lemmas.List.Quantifiers.{position-Some}
use Rattle.ips_text.proofs.Truths.{or_true}
use Rattle.ips_conflict.proofs.Places.{at_index}
use Rattle.ips_books.proofs.Read.{any_first, none_first}

first_is : {X : Type 0} (p : X → Bool) (xs : List X) (i : ℕ) (d : X) → i < length xs → p (get_or xs i d) ≡ true → ((k : ℕ) → k < i → p (get_or xs k d) ≡ false) → position_or_len p xs ≡ i
first_is p [] i d lt passes fails = absurd (omega (arith, lt))
first_is p (x ∷ xs) zero d lt passes fails = ap (λ (t : Bool). cond (not t) (1 + position_or_len p xs) 0) passes
first_is p (x ∷ xs) (suc i) d lt passes fails =
    ap (λ (t : Bool). cond (not t) (1 + position_or_len p xs) 0) (fails 0 (omega arith))
    ∙ ap (λ (n : ℕ). 1 + n) (first_is p xs i d (omega (arith, lt)) passes (λ k h. fails (suc k) (omega (arith, h)))) ∙ one_more i
  where
    one_more : (i : ℕ) → 1 + i ≡ suc i
    one_more i = omega arith

none_passes : {X : Type 0} (p : X → Bool) (xs : List X) (d : X) → ((k : ℕ) → k < length xs → p (get_or xs k d) ≡ false) → list_any p xs ≡ false
none_passes p [] d fails = refl
none_passes p (x ∷ xs) d fails = ap (λ (t : Bool). t || list_any p xs) (fails 0 (omega arith)) ∙ none_passes p xs d (λ k h. fails (suc k) (omega (arith, h)))

pub found_first : {X : Type 0} (p : X → Bool) (xs : List X) (i : ℕ) (d : X) → i < length xs → p (get_or xs i d) ≡ true → ((k : ℕ) → k < i → p (get_or xs k d) ≡ false) → position p xs ≡ Some i
found_first p xs i d lt passes fails =
    ap (λ (n : ℕ). let o : Option ℕ = cond (ltb n (length xs)) (Some n) None in o) (first_is p xs i d lt passes fails)
    ∙ ap (λ (t : Bool). let o : Option ℕ = cond t (Some i) None in o) (lt-ltb i (length xs) lt)

pub found_none : {X : Type 0} (p : X → Bool) (xs : List X) (d : X) → ((k : ℕ) → k < length xs → p (get_or xs k d) ≡ false) → position p xs ≡ None
found_none p xs d fails = ap (λ (t : Bool). let o : Option ℕ = cond t (Some (position_or_len p xs)) None in o) (sym (any_first p xs) ∙ none_passes p xs d fails)

-- ---- what stands at a place

pub stands : {X : Type 0} (p : X → Bool) (xs : List X) (i : ℕ) (d : X) → option_map_or p (slice_get xs i) false ≡ true → (i < length xs) × (p (get_or xs i d) ≡ true)
stands p [] i d e = absurd (true≢false (sym e))
stands p (x ∷ xs) zero d e = (omega arith, e)
stands p (x ∷ xs) (suc i) d e = let rest = stands p xs i d e in (omega (arith, rest.0), rest.1)

-- ---- the line there

line_found : {X : Type 0} (p : X → Bool) (xs : List X) (i : ℕ) → position p xs ≡ Some i → slice_get xs i ≡ find p xs
line_found p xs i e = sym (find_at p xs ∙ ap (slice_get xs) (cond_some (ltb (position_or_len p xs) (length xs)) (position_or_len p xs) i e).1)

pub line_there : {X : Type 0} (p : X → Bool) (xs : List X) (i : ℕ) (x : X) → position p xs ≡ Some i → x ≡ get_or xs i x → Some x ≡ find p xs
line_there p xs i x e at = sym (at_index xs i x (position-Some p xs i x e).0 at) ∙ line_found p xs i e

past : (i n : ℕ) → ltb i n ≡ false → n ≤ i
past i n e = grind (arith, nat_tests)

pub line_none : {X : Type 0} (p : X → Bool) (xs : List X) → position p xs ≡ None → find p xs ≡ None
line_none p xs e = find_at p xs ∙ slice_get_past xs (position_or_len p xs) (past (position_or_len p xs) (length xs) (sym (any_first p xs) ∙ none_first p xs e))

-- ---- whether some line passes, by places

passing : {X : Type 0} (p : X → Bool) (xs : List X) (d : X) → list_any p xs ≡ true → (i : ℕ) × (i < length xs) × (p (get_or xs i d) ≡ true)
passing p [] d e = absurd (true≢false (sym e))
passing {X} p (x ∷ xs) d e = go (p x) refl e (passing p xs d)
  where
    go : (t : Bool) → p x ≡ t → (t || list_any p xs) ≡ true → (list_any p xs ≡ true → (i : ℕ) × (i < length xs) × (p (get_or xs i d) ≡ true)) → (i : ℕ) × (i < length (x ∷ xs)) × (p (get_or (x ∷ xs) i d) ≡ true)
    go true is e rest = (0, omega arith, is)
    go false is e rest = let r = rest e in (suc r.0, omega (arith, r.1), r.2)

at_place : (q : ℕ → Bool) (places : List ℕ) (i : ℕ) → list_any (λ place. eqb place i) places ≡ true → q i ≡ true → list_any q places ≡ true
at_place q [] i e passes = absurd (true≢false (sym e))
at_place q (k ∷ places) i e passes = go (eqb k i) refl e (λ h. at_place q places i h passes)
  where
    go : (t : Bool) → eqb k i ≡ t → (t || list_any (λ place. eqb place i) places) ≡ true → (list_any (λ place. eqb place i) places ≡ true → list_any q places ≡ true) → (q k || list_any q places) ≡ true
    go true is h rest = ap (λ (t : Bool). t || list_any q places) (ap q (eqb-true k i is) ∙ passes)
    go false is h rest = ap (λ (t : Bool). q k || t) (rest h) ∙ or_true (q k)

none_at : {X : Type 0} (p : X → Bool) (xs : List X) (i : ℕ) → list_any p xs ≡ false → option_map_or p (slice_get xs i) false ≡ false
none_at p [] i e = refl
none_at p (x ∷ xs) zero e = (or_parts (p x) (list_any p xs) e).0
none_at p (x ∷ xs) (suc i) e = none_at p xs i (or_parts (p x) (list_any p xs) e).1

none_of : (q : ℕ → Bool) (places : List ℕ) → ((i : ℕ) → q i ≡ false) → list_any q places ≡ false
none_of q [] fails = refl
none_of q (i ∷ places) fails = ap (λ (t : Bool). t || list_any q places) (fails i) ∙ none_of q places fails

-- Where each line that passes is among the places, some line passes where one at these places does.
pub any_led : {X : Type 0} (p : X → Bool) (xs : List X) (places : List ℕ) (d : X) → ((i : ℕ) → i < length xs → p (get_or xs i d) ≡ true → list_any (λ place. eqb place i) places ≡ true)
    → list_any (λ place. option_map_or p (slice_get xs place) false) places ≡ list_any p xs
any_led {X} p xs places d led = go (list_any p xs) refl
  where
    go : (t : Bool) → list_any p xs ≡ t → list_any (λ place. option_map_or p (slice_get xs place) false) places ≡ t
    go true e =
        let i = passing p xs d e in
        at_place (λ place. option_map_or p (slice_get xs place) false) places i.0 (led i.0 i.1 i.2) (ap (λ (o : Option X). option_map_or p o false) (slice_get-get_or xs i.0 d i.1) ∙ i.2)
    go false e = none_of (λ place. option_map_or p (slice_get xs place) false) places (λ i. none_at p xs i e)
