-- Types that are decided: they have an element, or none.
use Rattle.std.proofs.Common.{◌≡◌, ◌⊎◌, inl, inr, ℕ, ◌<◌, ◌≤◌, Bool, true, false, List, [], ◌∷◌, refl, sym, arith}
use Rattle.std.specs.List.{AllByRecursion}
use Rattle.std.proofs.lemmas.Bool.{true≢false, cases_lt}
use Rattle.std.proofs.lemmas.Bool.Decides.{eqb_tells}
use Rattle.std.specs.Cmp.Lexicographic.{pointwise, bytes_decides}

-- there is one, or there is none
abbrev pub Decided : Type 0 → Type 0
Decided P = P ⊎ (P → ⊥)

-- what has an element where another type has one is decided with it
pub with_it : (P Q : Type 0) → (P → Q) → (Q → P) → Decided P → Decided Q
with_it P Q to from (inl p) = inl (to p)
with_it P Q to from (inr none) = inr (λ q. none (from q))

pub both : {P Q : Type 0} → Decided P → Decided Q → Decided (P × Q)
both (inl p) (inl q) = inl (p, q)
both (inl p) (inr none) = inr (λ h. none h.1)
both (inr none) q = inr (λ h. none h.0)

pub either : {P Q : Type 0} → Decided P → Decided Q → Decided (P ⊎ Q)
either (inl p) q = inl (inl p)
either (inr none) (inl q) = inl (inr q)
either (inr none) (inr other) = inr (λ h. elim h [ inl p ↦ none p | inr q ↦ other q ])

pub unless : {P : Type 0} → Decided P → Decided (P → ⊥)
unless (inl p) = inr (λ none. none p)
unless (inr none) = inl none

pub where_so : {P Q : Type 0} → Decided P → Decided Q → Decided (P → Q)
where_so (inr none) q = inl (λ p. absurd (none p))
where_so (inl p) (inl q) = inl (λ _. q)
where_so (inl p) (inr none) = inr (λ h. none (h p))

-- what isn't refuted, where it is decided
pub unrefuted : {P : Type 0} → Decided P → ((P → ⊥) → ⊥) → P
unrefuted (inl p) h = p
unrefuted (inr none) h = absurd (h none)

-- ---- tests

pub is_true : (b : Bool) → Decided (b ≡ true)
is_true true = inl refl
is_true false = inr (λ e. true≢false (sym e))

pub is_false : (b : Bool) → Decided (b ≡ false)
is_false true = inr (λ e. true≢false e)
is_false false = inl refl

pub is_below : (m n : ℕ) → Decided (m < n)
is_below m n = elim (cases_lt m n) [ inl lt ↦ inl lt | inr ge ↦ inr (λ lt. omega arith) ]

pub is_up_to : (m n : ℕ) → Decided (m ≤ n)
is_up_to m n = elim (cases_lt n m) [ inl lt ↦ inr (λ le. omega arith) | inr ge ↦ inl ge ]

pub same_number : (m n : ℕ) → Decided (m ≡ n)
same_number m n = elim (eqb_tells m n) [ inl same ↦ inl same.1 | inr other ↦ inr (λ e. other.1 e) ]

pub same_bytes : (xs ys : List ℕ) → Decided (xs ≡ ys)
same_bytes xs ys = with_it (pointwise _ xs ys ≡ true) (xs ≡ ys) (bytes_decides xs ys).0 (bytes_decides xs ys).1 (is_true (pointwise _ xs ys))

-- ---- lists

pub each : {X : Type 0} (P : X → Type 0) → ((x : X) → Decided (P x)) → (xs : List X) → Decided (AllByRecursion P xs)
each P decide [] = inl tt
each P decide (x ∷ xs) = both (decide x) (each P decide xs)

-- one of them has the property, or none has
pub one_of : {X : Type 0} (P : X → Type 0) → ((x : X) → Decided (P x)) → (xs : List X) → ((x : X) × P x) ⊎ AllByRecursion (λ x. P x → ⊥) xs
one_of P decide [] = inr tt
one_of {X} P decide (x ∷ xs) = go (decide x) (one_of P decide xs)
  where
    go : Decided (P x) → ((y : X) × P y) ⊎ AllByRecursion (λ y. P y → ⊥) xs → ((y : X) × P y) ⊎ ((P x → ⊥) × AllByRecursion (λ y. P y → ⊥) xs)
    go (inl p) rest = inl (x, p)
    go (inr none) (inl found) = inl found
    go (inr none) (inr others) = inr (none, others)
