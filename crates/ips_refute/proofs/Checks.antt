-- Steps of the checker.
use Rattle.std.proofs.Common.{◌≡◌, ℕ, zero, suc, ◌+◌, ◌-◌, ◌<◌, ◌≤◌, ◌≢◌, ◌↔◌, ◌⊎◌, inl, inr, Bool, true, false, List, [], ◌∷◌, length, get_or, slice_get, take, drop, All, Contains, Some, None, IsTrue, Option, sym, ap, ◌∙◌, subst, arith, get_or-take, length-take-le, take_all, length-drop, true≢false, ltb, ltb-true, eqb, eqb-true, eq-eqb, vec_len}
use Rattle.std.proofs.lemmas.Bool.{cases_lt}
use Rattle.std.proofs.lemmas.List.{get_or_default, nil_from_length}
use Rattle.std.proofs.lemmas.List.{take-append-drop}
use Rattle.std.proofs.lemmas.List.Elements.{Contains-append_left, Contains-append_right, Contains-append_cases}
use Rattle.std.proofs.lemmas.Option.{slice_get_within, same_Some}
use Rattle.ips_refute.specs.declared.nogoods.Pair.{Pair}
use Rattle.ips_refute.specs.declared.nogoods.Nogood.{Nogood}
use Rattle.std.specs.Prelude.{IfSome, IfNone}
use Rattle.ips_refute.specs.Meaning.{Meaning, IsSubset, OnePerStem, Ascends}
use Rattle.ips_refute.specs.Refuting.{ContainsEarlier, EndsEmpty, AreNogoods, IsRefutation}

pub no_true : {A : Type 0} → IsTrue false → A
no_true e = absurd (true≢false (sym e))

pub contains_more : (p q : Pair) (set : List Pair) → Contains (q ∷ set) p → (q ≡ p) ⊎ Contains set p
contains_more p q set (zero, l, e) = inl e
contains_more p q set (suc k, l, e) = inr (k, omega arith, e)

pub contains_rest : (p q : Pair) (set : List Pair) → Contains set p → Contains (q ∷ set) p
contains_rest p q set (k, l, e) = (suc k, omega arith, e)

pub contains_more_iff : (r : Bool) (p q : Pair) (set : List Pair) → (p ≡ q → ⊥) → (IsTrue r ↔ Contains set p) → IsTrue r ↔ Contains (q ∷ set) p
contains_more_iff r p q set ne (f, g) =
    (λ t. contains_rest p q set (f t), λ h. elim (contains_more p q set h) [ inl e ↦ absurd (ne (sym e)) | inr h' ↦ g h' ])

-- the places before i have other stems than the one at i
pub free_before : (set : List Pair) (i : ℕ) (d : Pair) → i < length set → OnePerStem set → All (λ q. q.stem ≢ (get_or set i d).stem) (take i set)
free_before set i d h one k e l eq =
    let lt : k < i = omega (arith, length-take-le i set (omega arith)) in
    let same : get_or (take i set) k e ≡ get_or set k d = get_or-take i set k e lt ∙ get_or_default set k e d (omega arith) in
    one k i d lt h (sym (ap (λ (q : Pair). q.stem) same) ∙ eq)

-- one place more
pub one_more : (set : List Pair) (n : ℕ) (d0 : Pair) → n < length set → All (λ q. q.stem ≢ (get_or set n d0).stem) (take n set)
    → ((i j : ℕ) (d : Pair) → i < j → j < n → (get_or set i d).stem ≢ (get_or set j d).stem)
    → (i j : ℕ) (d : Pair) → i < j → j < n + 1 → (get_or set i d).stem ≢ (get_or set j d).stem
one_more set n d0 h free before i j d l m eq =
    elim (cases_lt j n) [
      | inl lt ↦ before i j d l lt eq
      | inr le ↦
          let e : j ≡ n = omega arith in
          let lt : i < length (take n set) = omega (arith, length-take-le n set (omega arith)) in
          let at_i : get_or (take n set) i d ≡ get_or set i d = get_or-take n set i d (omega arith) in
          let at_n : get_or set j d ≡ get_or set n d0 = ap (λ k. get_or set k d) e ∙ get_or_default set n d d0 h in
          free i d lt (ap (λ (q : Pair). q.stem) at_i ∙ eq ∙ ap (λ (q : Pair). q.stem) at_n)
    ]

pub earlier_iff : (r : Bool) (earlier : List Nogood) (n : ℕ) (g : Nogood) (few set : List Pair) → slice_get earlier n ≡ Some g → few ≡ g.set.items → (IsTrue r ↔ IsSubset few set) → IsTrue r ↔ ContainsEarlier earlier n set
earlier_iff r earlier n g few set e same (f, b) =
    let P : List Pair → Type 0 = λ s. IsSubset s set in (
      λ t. (g, e, subst P same (f t)),
      λ (g', e', w).
          let eq : g' ≡ g = same_Some g' g (sym e' ∙ e) in
          b (subst P (ap (λ (x : Nogood). x.set.items) eq ∙ sym same) w),
    )

pub no_earlier : (earlier : List Nogood) (n : ℕ) (set : List Pair) → length earlier ≤ n → IsTrue (ltb n (length earlier)) ↔ ContainsEarlier earlier n set
no_earlier earlier n set h = (λ t. absurd (omega (arith, ltb-true n (length earlier) t)), λ (g, e, w). absurd (omega (arith, slice_get_within earlier n g e)))

pub within_more : (few many : List Pair) (n : ℕ) (d0 : Pair) → n < length few → Contains many (get_or few n d0)
    → ((k : ℕ) (d : Pair) → k < n → Contains many (get_or few k d))
    → (k : ℕ) (d : Pair) → k < n + 1 → Contains many (get_or few k d)
within_more few many n d0 h at before k d l =
    elim (cases_lt k n) [
      | inl lt ↦ before k d lt
      | inr le ↦
          let e : k ≡ n = omega arith in
          let same : get_or few n d0 ≡ get_or few k d = get_or_default few n d0 d h ∙ ap (λ j. get_or few j d) (sym e) in
          let P : Pair → Type 0 = λ q. Contains many q in
          subst P same at
    ]

pub ends_iff : (r : Bool) (ns : List Nogood) (g : Nogood) → slice_get ns (length ns - 1) ≡ Some g → (IsTrue r ↔ (g.set.items ≡ [])) → IsTrue r ↔ EndsEmpty ns
ends_iff r ns g e (f, b) = (
  λ t. (g, omega (arith, slice_get_within ns (length ns - 1) g e), e, f t),
  λ (g', l, e', w). b (sym (ap (λ (x : Nogood). x.set.items) (same_Some g' g (sym e' ∙ e))) ∙ w),
)

pub both_iff : (a b : Bool) (m : Meaning) (ns xs : List Nogood) → xs ≡ ns → a ≡ true → (IsTrue a ↔ AreNogoods m xs) → (IsTrue b ↔ EndsEmpty xs) → IsTrue b ↔ IsRefutation m ns
both_iff a b m ns xs same t (f, f') (h, h') =
    let P : List Nogood → Type 0 = λ l. IsTrue b ↔ IsRefutation m l in
    subst P same (λ u. (f t, h u), λ (x, y). h' y)

pub empty_iff : (r : Bool) (g : Nogood) → r ≡ eqb (vec_len g.set) 0 → IsTrue r ↔ (g.set.items ≡ [])
empty_iff r g e = (
  λ t. nil_from_length g.set.items (omega (arith, g.set.ok.0, eqb-true (vec_len g.set) 0 (sym e ∙ t))),
  λ nil. e ∙ eq-eqb (vec_len g.set) 0 (omega (arith, g.set.ok.0, ap length nil)),
)

-- a pair stands before a place or from it on
pub Contains-cut : (set : List Pair) (n : ℕ) (q : Pair) → Contains set q → Contains (take n set) q ⊎ Contains (drop n set) q
Contains-cut set n q h = Contains-append_cases (take n set) (drop n set) q (subst (λ (l : List Pair). Contains l q) (sym (take-append-drop n set)) h)

pub Contains-from : (set : List Pair) (n : ℕ) (q : Pair) → Contains (drop n set) q → Contains set q
Contains-from set n q h = subst (λ (l : List Pair). Contains l q) (take-append-drop n set) (Contains-append_right (take n set) (drop n set) q h)

pub Contains-before : (set : List Pair) (n : ℕ) (q : Pair) → Contains (take n set) q → Contains set q
Contains-before set n q h = subst (λ (l : List Pair). Contains l q) (take-append-drop n set) (Contains-append_left (take n set) (drop n set) q h)

pub in_neither : (set : List Pair) (n : ℕ) (q : Pair) → (Contains (drop n set) q → ⊥) → (Contains (take n set) q → ⊥) → Contains set q → ⊥
in_neither set n q f g h = elim (Contains-cut set n q h) [ inl x ↦ g x | inr x ↦ f x ]

pub not_more : (set : List Pair) (p q : Pair) → (p ≡ q → ⊥) → (Contains set p → ⊥) → Contains (q ∷ set) p → ⊥
not_more set p q ne none h = elim (contains_more p q set h) [ inl e ↦ ne (sym e) | inr x ↦ none x ]

pub found_behind : (r : Option ℕ) (n : ℕ) (set : List Pair) (p q : Pair) → IfSome r (λ i. (i ≤ n) × Contains set p) → IfSome r (λ i. (i ≤ n) × Contains (q ∷ set) p)
found_behind None n set p q h = tt
found_behind (Some i) n set p q h = (h.0, contains_rest p q set h.1)

pub found_nowhere : (r : Option ℕ) (n : ℕ) (set : List Pair) (p : Pair) → (Contains (take (length set - n) (drop n set)) p → ⊥) → IfNone r (Contains (take n set) p → ⊥) → IfNone r (Contains set p → ⊥)
found_nowhere None n set p f g =
    let whole : take (length set - n) (drop n set) ≡ drop n set = take_all (length set - n) (drop n set) (omega (arith, length-drop n set)) in
    in_neither set n p (subst (λ (l : List Pair). Contains l p → ⊥) whole f) g
found_nowhere (Some i) n set p f g = tt

pub Ascends-one : (set : List Pair) → Ascends set → OnePerStem set
Ascends-one set up i j d l h e = let lt = up i j d l h in omega (arith, lt, e)
