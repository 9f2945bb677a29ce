-- What stands in a list.
use Rattle.std.proofs.Common.{◌≡◌, ℕ, zero, suc, List, [], ◌∷◌, ◌++◌, map, slice_get, Some, Contains, refl, ap, subst, ◌∙◌, inl, inr, ◌⊎◌, arith}
use Rattle.std.specs.List.{AllByRecursion}
use Rattle.std.proofs.lemmas.Option.{none-some, same_Some, slice_get-get_or}

-- it is an element of the list
abbrev pub Among : {X : Type 0} → X → List X → Type 0
Among x [] = ⊥
Among x (y ∷ ys) = (y ≡ x) ⊎ Among x ys

pub among_left : {X : Type 0} (x : X) (xs ys : List X) → Among x xs → Among x (xs ++ ys)
among_left x [] ys h = absurd h
among_left x (y ∷ xs) ys (inl e) = inl e
among_left x (y ∷ xs) ys (inr h) = inr (among_left x xs ys h)

pub among_right : {X : Type 0} (x : X) (xs ys : List X) → Among x ys → Among x (xs ++ ys)
among_right x [] ys h = h
among_right x (y ∷ xs) ys h = inr (among_right x xs ys h)

pub among_cases : {X : Type 0} (x : X) (xs ys : List X) → Among x (xs ++ ys) → Among x xs ⊎ Among x ys
among_cases x [] ys h = inr h
among_cases x (y ∷ xs) ys (inl e) = inl (inl e)
among_cases x (y ∷ xs) ys (inr h) = elim (among_cases x xs ys h) [ inl a ↦ inl (inr a) | inr b ↦ inr b ]

pub among_map : {X Y : Type 0} (f : X → Y) (x : X) (xs : List X) → Among x xs → Among (f x) (map f xs)
among_map f x [] h = absurd h
among_map f x (y ∷ xs) (inl e) = inl (ap f e)
among_map f x (y ∷ xs) (inr h) = inr (among_map f x xs h)

pub among_mapped : {X Y : Type 0} (f : X → Y) (y : Y) (xs : List X) → Among y (map f xs) → (x : X) × Among x xs × (f x ≡ y)
among_mapped f y [] h = absurd h
among_mapped f y (x ∷ xs) (inl e) = (x, inl refl, e)
among_mapped f y (x ∷ xs) (inr h) = let (z, a, e) = among_mapped f y xs h in (z, inr a, e)

pub among_at : {X : Type 0} (xs : List X) (i : ℕ) (x : X) → slice_get xs i ≡ Some x → Among x xs
among_at [] i x e = absurd (none-some x e)
among_at (y ∷ xs) zero x e = inl (same_Some y x e)
among_at (y ∷ xs) (suc i) x e = inr (among_at xs i x e)

pub place_among : {X : Type 0} (x : X) (xs : List X) → Among x xs → (i : ℕ) × (slice_get xs i ≡ Some x)
place_among x [] h = absurd h
place_among x (y ∷ xs) (inl e) = (0, ap (λ z. Some z) e)
place_among x (y ∷ xs) (inr h) = let (i, e) = place_among x xs h in (suc i, e)

-- what is contained stands at a place
pub contained_at : {X : Type 0} (xs : List X) (x : X) → Contains xs x → (i : ℕ) × (slice_get xs i ≡ Some x)
contained_at xs x (i, l, e) = (i, slice_get-get_or xs i x l ∙ ap (λ z. Some z) e)

-- and what stands at a place is contained
pub at_contained : {X : Type 0} (xs : List X) (i : ℕ) (x : X) → slice_get xs i ≡ Some x → Contains xs x
at_contained [] i x e = absurd (none-some x e)
at_contained (y ∷ xs) zero x e = (0, omega arith, same_Some y x e)
at_contained (y ∷ xs) (suc i) x e = let (k, l, f) = at_contained xs i x e in (suc k, omega arith, f)

-- an element is contained, and what is contained is an element
pub among_contained : {X : Type 0} (x : X) (xs : List X) → Among x xs → Contains xs x
among_contained x xs a = let (i, e) = place_among x xs a in at_contained xs i x e

pub contained_among : {X : Type 0} (x : X) (xs : List X) → Contains xs x → Among x xs
contained_among x xs c = let (i, e) = contained_at xs x c in among_at xs i x e

pub all_from_among : {X : Type 0} (P : X → Type 0) (xs : List X) → ((x : X) → Among x xs → P x) → AllByRecursion P xs
all_from_among P [] w = tt
all_from_among P (x ∷ xs) w = (w x (inl refl), all_from_among P xs (λ y a. w y (inr a)))

pub all_at_among : {X : Type 0} (P : X → Type 0) (x : X) (xs : List X) → AllByRecursion P xs → Among x xs → P x
all_at_among P x [] all h = absurd h
all_at_among P x (y ∷ xs) all (inl e) = subst P e all.0
all_at_among P x (y ∷ xs) all (inr h) = all_at_among P x xs all.1 h
