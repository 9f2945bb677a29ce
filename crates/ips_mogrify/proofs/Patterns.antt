-- The first rule with a pattern that is none.
use Rattle.std.proofs.Common.{◌≡◌, ℕ, zero, suc, ◌<◌, ◌↔◌, Bool, false, IsTrue, List, [], ◌∷◌, length, get_or, take, sym, ◌∙◌, ap, subst, arith, inl, inr}
use Rattle.std.proofs.lemmas.Bool.{true≢false}
use Rattle.std.specs.List.{AllByRecursion}
use Rattle.ips_rule.specs.declared.line.RuleLine.{RuleLine}
use Rattle.ips_transform.specs.Transformed.{HasPatterns}
use Rattle.ips_transform.specs.Output.{rules_of}
use Rattle.ips_mogrify.specs.Whole.{IsFirstBadPattern}

-- what a test says that fails
pub test_fails : (b : Bool) (P : Type 0) → b ≡ false → (IsTrue b ↔ P) → P → ⊥
test_fails b P e iff p = true≢false (sym (iff.1 p) ∙ e)

pub first_bad : (rules : List RuleLine) (i : ℕ) (line : RuleLine) (number : ℕ) → i < length rules → line ≡ get_or rules i line → AllByRecursion HasPatterns (rules_of (take i rules)) → number ≡ line.number → (HasPatterns line.rule → ⊥) → IsFirstBadPattern rules number
first_bad [] i line number lt e front at none = absurd (omega arith)
first_bad (first ∷ rules) zero line number lt e front at none = inl (at ∙ ap (λ (l : RuleLine). l.number) e, λ h. none (subst (λ (l : RuleLine). HasPatterns l.rule) (sym e) h))
first_bad (first ∷ rules) (suc i) line number lt e front at none = inr (front.0, first_bad rules i line number (omega arith) e front.1 at none)
