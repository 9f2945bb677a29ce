use Rattle.std.proofs.Common.{◌≡◌, ◌∙◌, ℕ, ◌+◌, ◌==◌, true, List, ap, arith}
use Rattle.std.specs.List.{list_any}
use Rattle.ips_outside.specs.Tally.{Tally, next_fails}
use Rattle.ips_outside.proofs.calls.Calls.fails.Goals as goal

pub returns-then-failed-clause-uncapped : goal.returns-then-failed-clause-uncapped
returns-then-failed-clause-uncapped c =
    λ listed.
    let here : c.is_listed.result ≡ true = c.is_listed.ensures.listed ∙ ap (λ (xs : List ℕ). list_any (λ n. n == c.self.inside.made + 1) xs) c.deref.ensures.value ∙ ap next_fails c.self.view_is ∙ listed in
    let same = ap (λ (t : Tally). t.failed) c.self.view_is in
    omega (arith, c.is_listed.ensures.uncapped here, c.self.invariant)

pub returns-else-failed-clause-uncapped : goal.returns-else-failed-clause-uncapped
returns-else-failed-clause-uncapped c =
    λ listed.
    let here : c.is_listed.result ≡ true = c.is_listed.ensures.listed ∙ ap (λ (xs : List ℕ). list_any (λ n. n == c.self.inside.made + 1) xs) c.deref.ensures.value ∙ ap next_fails c.self.view_is ∙ listed in
    let same = ap (λ (t : Tally). t.failed) c.self.view_is in
    omega (arith, c.is_listed.ensures.uncapped here, c.self.invariant)
