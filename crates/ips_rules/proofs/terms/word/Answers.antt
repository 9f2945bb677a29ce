use Rattle.std.proofs.Common.{◌≡◌, ◌∙◌, ◌++◌, ◌∷◌, List, ℕ, subst}
use Rattle.std.specs.Prelude.{IfOk}
use Rattle.ips_rules.proofs.terms.word.Goals as goal

pub returns-in_ok-value-in-Keyed : goal.returns-in_ok-value-in-Keyed
returns-in_ok-value-in-Keyed c =
    rw (c.in-Keyed.is)
    (subst (λ (l : List ℕ). IfOk c.joined.result (λ word. word ≡ c.in-Keyed.key.now ++ 61 ∷ l)) (c.as_str.ensures ∙ c.in_ok-value-in-Keyed.ensures) c.joined.ensures)
