use Rattle.std.proofs.Common.{◌≡◌, ◌||◌, ℕ, List, take, map}
use Rattle.std.specs.List.{list_any}
use Rattle.ips_outside.specs.Tearing.{in_set}
use Rattle.ips_steps.specs.View.{step_of}
use Rattle.ips_rehearse.specs.Asked as asked
use Rattle.ips_rehearse.proofs.asking.gather_first.Given as goal

abbrev pub invariant-loop-step : goal.invariant-loop-step
invariant-loop-step l = record {
  given : (q : List ℕ) → in_set l.given q ≡ list_any (λ s. asked.gives_mode q (step_of s)) (take l.step-index l.steps);
  first : (q : List ℕ) → in_set l.first q ≡ (asked.works_first q (map step_of (take l.step-index l.steps)) || in_set l.fn.first q);
}
