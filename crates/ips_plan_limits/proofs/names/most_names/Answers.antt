use Rattle.std.proofs.Common.{◌∙◌, ℕ, ◌+◌, ◌++◌, List, Bor, ap, map}
use Rattle.ips_steps.specs.View.{step_of}
use Rattle.ips_plan_limits.specs.Names.{most_times, targets_of}
use Rattle.ips_plan_limits.proofs.Named.{most_permuted}
use Rattle.ips_plan_limits.proofs.names.most_names.Goals as goal

pub returns : goal.returns
returns c =
    let texts : List (Bor (List ℕ)) → List (List ℕ) = map (λ (t : Bor (List ℕ)). t.now) in
    let targets = targets_of (map step_of c.args.steps.now) in
    ap (λ (n : ℕ). n + 1)
    (c.most_times.ensures.most
    ∙ ap (λ (l : List (Bor (List ℕ))). most_times (texts l)) c.deref.ensures.value
    ∙ most_permuted (λ (t : Bor (List ℕ)). t.now) _ _ c.in_ok-sort.ensures.permutation
    ∙ ap most_times (c.in_ok-gather.ensures ∙ ap (λ (l : List (Bor (List ℕ))). texts l ++ targets) c.new-targets.ensures.items))
