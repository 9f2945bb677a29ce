-- Counts of faults, and of calls that may change something, from call to call.
use Rattle.std.proofs.Common.{◌≡◌, ◌⊎◌, ℕ, ◌+◌, ◌^◌, ◌<◌, ◌≤◌, ⊎_elim, inl, inr, refl, sym, ◌∙◌, subst, arith}
use Rattle.std.proofs.lemmas.Bool.{cases_lt}
use Rattle.ips_outside.specs.Outside.{Rose, HasCause, RoseWhere, OneMore}

pub rose_later : (a b c : ℕ) → Rose a b → b ≤ c → Rose a c
rose_later a b c rose le = ⊎_elim (λ up. inl (omega arith)) (λ last. inr (omega arith)) rose

pub rose_since : (a b c : ℕ) → a ≤ b → Rose b c → Rose a c
rose_since a b c le rose = ⊎_elim (λ up. inl (omega arith)) (λ last. inr (omega arith)) rose

-- a call that counts makes its count rise
pub one_rose : (a b : ℕ) → OneMore a b → Rose a b
one_rose a b more = ⊎_elim (λ up. inl (omega (arith, more.one, up))) (λ last. inr (omega (arith, more.one, last))) (cases_lt (a + 1) (2 ^ 64))

-- no call
pub no_cause : (a : ℕ) (R : Type 0) → (R → ⊥) → HasCause a a R
no_cause a R never = record { later = omega arith; rose = λ r. absurd (never r); steady = λ none. refl }

-- the same under another failure
pub cause_as : (a b : ℕ) (P R : Type 0) → HasCause a b P → (P → R) → (R → P) → HasCause a b R
cause_as a b P R cause to from = record { later = cause.later; rose = λ r. cause.rose (from r); steady = λ none. cause.steady (λ p. none (to p)) }

-- one call after another: a failure of either is one of the whole, and there is no other
pub cause_then : (a b c : ℕ) (P Q R : Type 0) → HasCause a b P → HasCause b c Q → (P → R) → (Q → R) → (R → P ⊎ Q) → HasCause a c R
cause_then a b c P Q R first last p q split = record {
  later = omega (arith, first.later, last.later);
  rose = λ r. ⊎_elim (λ x. rose_later a b c (first.rose x) last.later) (λ y. rose_since a b c first.later (last.rose y)) (split r);
  steady = λ none. last.steady (λ y. none (q y)) ∙ first.steady (λ x. none (p x));
}

-- a call behind one that didn't fail
pub cause_behind : (a b c : ℕ) (P Q R : Type 0) → HasCause a b P → (P → ⊥) → HasCause b c Q → (Q → R) → (R → Q) → HasCause a c R
cause_behind a b c P Q R first never last to from = cause_then a b c P Q R first last (λ x. absurd (never x)) to (λ r. inr (from r))

-- a call that didn't fail, behind one
pub cause_before : (a b c : ℕ) (P Q R : Type 0) → HasCause a b P → HasCause b c Q → (Q → ⊥) → (P → R) → (R → P) → HasCause a c R
cause_before a b c P Q R first last never to from = cause_then a b c P Q R first last to (λ y. absurd (never y)) (λ r. inl (from r))

-- no call that counts
pub rises_none : (a : ℕ) (R : Type 0) → (R → ⊥) → RoseWhere a a R
rises_none a R never = record { later = omega arith; rose = λ r. absurd (never r) }

-- one call that counts
pub rises_once : (a b : ℕ) (R : Type 0) → OneMore a b → RoseWhere a b R
rises_once a b R more = record { later = more.later; rose = λ r. one_rose a b more }

-- the same where less is said
pub rises_as : (a b : ℕ) (P R : Type 0) → RoseWhere a b P → (R → P) → RoseWhere a b R
rises_as a b P R run from = record { later = run.later; rose = λ r. run.rose (from r) }

-- one run of calls after another
pub rises_then : (a b c : ℕ) (P Q R : Type 0) → RoseWhere a b P → RoseWhere b c Q → (R → P ⊎ Q) → RoseWhere a c R
rises_then a b c P Q R first last split = record {
  later = omega (arith, first.later, last.later);
  rose = λ r. ⊎_elim (λ x. rose_later a b c (first.rose x) last.later) (λ y. rose_since a b c first.later (last.rose y)) (split r);
}

-- a run behind calls that don't count
pub rises_behind : (a b c : ℕ) (R : Type 0) → b ≡ a → RoseWhere b c R → RoseWhere a c R
rises_behind a b c R same run = subst (λ (x : ℕ). RoseWhere x c R) same run

-- a run before calls that don't count
pub rises_before : (a b c : ℕ) (R : Type 0) → RoseWhere a b R → c ≡ b → RoseWhere a c R
rises_before a b c R run same = subst (λ (x : ℕ). RoseWhere a x R) (sym same) run

-- one call that counts, behind calls that don't
pub one_behind : (a b c : ℕ) → b ≡ a → OneMore b c → OneMore a c
one_behind a b c same more = subst (λ (x : ℕ). OneMore x c) same more

-- one call that counts, before calls that don't
pub one_before : (a b c : ℕ) → OneMore a b → c ≡ b → OneMore a c
one_before a b c more same = subst (λ (x : ℕ). OneMore a x) (sym same) more
