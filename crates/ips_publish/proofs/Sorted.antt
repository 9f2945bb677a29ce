-- Each sort of step has a kind that takes it.
use Rattle.std.proofs.Common.{◌≡◌, ℕ, zero, suc, ◌<◌, Bool, true, List, [], ◌∷◌, length, get_or, sym, ◌∙◌, ap, subst, arith}
use Rattle.std.proofs.lemmas.Bool.{or_left, or_right}
use Rattle.ips_steps.specs.declared.step.Sort.{Sort}
use Rattle.ips_kinds.specs.Tallies.{seen_by, taken}

module _ {K : Type 0} (sorts : K → Sort → Bool) (finished : K → ℕ) (s : Sort) where
  -- the kind at a place takes it
  pub taken_at : (kinds : List K) (i : ℕ) (k : K) → i < length kinds → k ≡ get_or kinds i k → sorts k s ≡ true → taken (seen_by sorts finished kinds) s ≡ true
  taken_at [] i k lt is takes = absurd (omega (arith, lt))
  taken_at (x ∷ rest) zero k lt is takes = or_left (sorts x s) _ (ap (λ (y : K). sorts y s) (sym is) ∙ takes)
  taken_at (x ∷ rest) (suc i) k lt is takes = or_right (sorts x s) _ (taken_at rest i k (omega (arith, lt)) is takes)

module _ {K : Type 0} (sorts : K → Sort → Bool) (finished : K → ℕ) where
  pub taken_in : (slice kinds : List K) → slice ≡ kinds → ((s : Sort) → taken (seen_by sorts finished slice) s ≡ true) → (s : Sort) → taken (seen_by sorts finished kinds) s ≡ true
  taken_in slice kinds same all s = subst (λ (l : List K). taken (seen_by sorts finished l) s ≡ true) same (all s)
