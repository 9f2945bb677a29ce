-- Which stems lists have, and their numbers.
use Rattle.std.proofs.Common.{◌≡◌, ◌≢◌, ℕ, zero, suc, ◌+◌, ◌<◌, ltb, Bool, true, false, not, cond, ◌||◌, List, [], ◌∷◌, ◌++◌, flat_map, position, length, slice_get, get_or, AllPairs, Option, Some, None, refl, sym, ap, subst, ◌∙◌, inl, inr, ◌⊎◌, arith, lt-ltb, bytes_eq}
use Rattle.std.specs.List.{list_any, position_or_len}
use Rattle.std.proofs.lemmas.Bool.{both_ways, cases_Bool, or_cases, or_left, or_right, cond_both, cond-true, cases_lt}
use Rattle.std.proofs.lemmas.Option.{slice_get_within, slice_get-get_or, get_or_from_slice_get}
use Rattle.std.proofs.lemmas.List.Quantifiers.{position-Some, all_pairs_push}
use Rattle.std.proofs.lemmas.Slice.Eq.{bytes_eq-Decides}
use Rattle.ips_request.specs.Stems.{has, put, put_all, firsts}
use Rattle.ips_request.specs.Laws.{same_as_itself, has_first}

pub same_stem : (x y : List ℕ) → bytes_eq x y ≡ true → x ≡ y
same_stem x y e = (bytes_eq-Decides x y).0 e

pub has_left : (x : List ℕ) (xs ys : List (List ℕ)) → has x xs ≡ true → has x (xs ++ ys) ≡ true
has_left x [] ys h = absurd (both_ways false refl h)
has_left x (y ∷ xs) ys h = elim (or_cases (bytes_eq x y) (has x xs) h) [
  | inl e ↦ or_left (bytes_eq x y) (has x (xs ++ ys)) e
  | inr r ↦ or_right (bytes_eq x y) (has x (xs ++ ys)) (has_left x xs ys r)
]

pub has_right : (x : List ℕ) (xs ys : List (List ℕ)) → has x ys ≡ true → has x (xs ++ ys) ≡ true
has_right x [] ys h = h
has_right x (y ∷ xs) ys h = or_right (bytes_eq x y) (has x (xs ++ ys)) (has_right x xs ys h)

has_put_old : (x s : List ℕ) (xs : List (List ℕ)) → has x xs ≡ true → has x (put xs s) ≡ true
has_put_old x s xs h = cond_both (has s xs) xs (xs ++ s ∷ []) (λ l. has x l ≡ true) (λ e. h) (λ e. has_left x xs (s ∷ []) h)

has_put_new : (s : List ℕ) (xs : List (List ℕ)) → has s (put xs s) ≡ true
has_put_new s xs = cond_both (has s xs) xs (xs ++ s ∷ []) (λ l. has s l ≡ true) (λ e. e) (λ e. has_right s xs (s ∷ []) (has_first s []))

has_old : (x : List ℕ) (more xs : List (List ℕ)) → has x xs ≡ true → has x (put_all xs more) ≡ true
has_old x [] xs h = h
has_old x (s ∷ more) xs h = has_old x more (put xs s) (has_put_old x s xs h)

has_new : (x : List ℕ) (more xs : List (List ℕ)) → has x more ≡ true → has x (put_all xs more) ≡ true
has_new x [] xs h = absurd (both_ways false refl h)
has_new x (s ∷ more) xs h = elim (or_cases (bytes_eq x s) (has x more) h) [
  | inl e ↦ has_old x more (put xs s) (subst (λ y. has y (put xs s) ≡ true) (sym (same_stem x s e)) (has_put_new s xs))
  | inr r ↦ has_new x more (put xs s) r
]

pub has_firsts : (x : List ℕ) (xs : List (List ℕ)) → has x xs ≡ true → has x (firsts xs) ≡ true
has_firsts x xs h = has_new x xs [] h

pub has_gathered : (f : List ℕ → List (List ℕ)) (x y : List ℕ) (ys : List (List ℕ)) → has y ys ≡ true → has x (f y) ≡ true → has x (flat_map f ys) ≡ true
has_gathered f x y [] h w = absurd (both_ways false refl h)
has_gathered f x y (z ∷ ys) h w = elim (or_cases (bytes_eq y z) (has y ys) h) [
  | inl e ↦ has_left x (f z) (flat_map f ys) (subst (λ s. has x (f s) ≡ true) (same_stem y z e) w)
  | inr r ↦ has_right x (f z) (flat_map f ys) (has_gathered f x y ys r w)
]

-- ---- numbers

-- an element that passes is found
any_at : {X : Type 0} (p : X → Bool) (xs : List X) (i : ℕ) (d : X) → i < length xs → p (get_or xs i d) ≡ true → list_any p xs ≡ true
any_at p [] i d l e = absurd (omega arith)
any_at p (x ∷ xs) zero d l e = or_left (p x) (list_any p xs) e
any_at p (x ∷ xs) (suc i) d l e = or_right (p x) (list_any p xs) (any_at p xs i d (omega arith) e)

position_below : {X : Type 0} (p : X → Bool) (xs : List X) → list_any p xs ≡ true → position_or_len p xs < length xs
position_below p [] h = absurd (both_ways false refl h)
position_below p (x ∷ xs) h = elim (cases_Bool (p x)) [
  | inl e ↦ let here : position_or_len p (x ∷ xs) ≡ 0 = ap (λ b. cond (not b) (1 + position_or_len p xs) 0) e in omega arith
  | inr e ↦
      let rest = position_below p xs (sym (ap (λ b. b || list_any p xs) e) ∙ h) in
      let on : position_or_len p (x ∷ xs) ≡ 1 + position_or_len p xs = ap (λ b. cond (not b) (1 + position_or_len p xs) 0) e in
      omega arith
]

pub none_or_some : {A : Type 0} (o : Option A) → (o ≡ None) ⊎ ((x : A) × (o ≡ Some x))
none_or_some None = inl refl
none_or_some (Some x) = inr (x, refl)

-- a stem of the list has a number, at which it stands
pub number_found : (x : List ℕ) (xs : List (List ℕ)) → has x xs ≡ true → (i : ℕ) × (position (bytes_eq x) xs ≡ Some i) × (slice_get xs i ≡ Some x)
number_found x xs h =
    let i = position_or_len (bytes_eq x) xs in
    let at : position (bytes_eq x) xs ≡ Some i = cond-true (ltb i (length xs)) (Some i) None (lt-ltb i (length xs) (position_below (bytes_eq x) xs h)) in
    let found = position-Some (bytes_eq x) xs i x at in
    (i, at, slice_get-get_or xs i x found.0 ∙ ap (λ s. Some s) (sym (same_stem x (get_or xs i x) found.1)))

-- a stem that isn't in the list has none
pub number_none : (x : List ℕ) (xs : List (List ℕ)) → has x xs ≡ false → position (bytes_eq x) xs ≡ None
number_none x xs h = elim (none_or_some (position (bytes_eq x) xs)) [
  | inl e ↦ e
  | inr (i, e) ↦ let found = position-Some (bytes_eq x) xs i x e in absurd (both_ways (has x xs) h (any_at (bytes_eq x) xs i x found.0 found.1))
]

-- the number of a stem is a place of the list
pub number_within : (x : List ℕ) (xs : List (List ℕ)) (i : ℕ) → position (bytes_eq x) xs ≡ Some i → i < length xs
number_within x xs i e = (position-Some (bytes_eq x) xs i x e).0

-- a stem with a number is in the list
pub numbered_has : (x : List ℕ) (xs : List (List ℕ)) (i : ℕ) → position (bytes_eq x) xs ≡ Some i → has x xs ≡ true
numbered_has x xs i e = let found = position-Some (bytes_eq x) xs i x e in any_at (bytes_eq x) xs i x found.0 found.1

-- a stem that stands somewhere is in the list
pub standing_has : (x : List ℕ) (xs : List (List ℕ)) (i : ℕ) → slice_get xs i ≡ Some x → has x xs ≡ true
standing_has x xs i e = any_at (bytes_eq x) xs i x (slice_get_within xs i x e) (ap (bytes_eq x) (get_or_from_slice_get xs i x x e) ∙ same_as_itself x)

-- ---- each stem once

abbrev pub AreDistinct : List (List ℕ) → Type 0
AreDistinct xs = AllPairs (λ (x y : List ℕ). x ≢ y) xs

distinct_put : (xs : List (List ℕ)) (s : List ℕ) → AreDistinct xs → AreDistinct (put xs s)
distinct_put xs s d = cond_both (has s xs) xs (xs ++ s ∷ []) AreDistinct (λ e. d)
    (λ e. all_pairs_push (λ (x y : List ℕ). x ≢ y) xs s d (λ k z l same. both_ways (has s xs) e (any_at (bytes_eq s) xs k z l (ap (bytes_eq s) same ∙ same_as_itself s))))

distinct_put_all : (more xs : List (List ℕ)) → AreDistinct xs → AreDistinct (put_all xs more)
distinct_put_all [] xs d = d
distinct_put_all (s ∷ more) xs d = distinct_put_all more (put xs s) (distinct_put xs s d)

pub distinct_firsts : (xs : List (List ℕ)) → AreDistinct (firsts xs)
distinct_firsts xs = distinct_put_all xs [] (λ i j z l h. absurd (omega arith))

-- so a stem's number is where it stands
pub own_number : (xs : List (List ℕ)) (i : ℕ) (x : List ℕ) → AreDistinct xs → slice_get xs i ≡ Some x → position (bytes_eq x) xs ≡ Some i
own_number xs i x d e =
    let (j, at, there) = number_found x xs (standing_has x xs i e) in
    let li = slice_get_within xs i x e in
    let lj = slice_get_within xs j x there in
    let same : get_or xs i x ≡ get_or xs j x = get_or_from_slice_get xs i x x e ∙ sym (get_or_from_slice_get xs j x x there) in
    elim (cases_lt i j) [
      | inl h ↦ absurd (d i j x h lj same)
      | inr g ↦ elim (cases_lt j i) [
        | inl h ↦ absurd (d j i x h li (sym same))
        | inr f ↦ let here : j ≡ i = omega arith in at ∙ ap (λ n. Some n) here
      ]
    ]
