use Rattle.std.proofs.Common.{◌≡◌, ◌||◌, ℕ, List, take}
use Rattle.std.specs.List.{list_any}
use Rattle.ips_outside.specs.Tearing.{in_set}
use Rattle.ips_steps.specs.View.{step_of}
use Rattle.ips_rehearse.specs.Asked as asked
use Rattle.ips_rehearse.proofs.asking.gather.Given as goal

abbrev pub invariant-loop-step : goal.invariant-loop-step
invariant-loop-step l = record {
  worked : (q : List ℕ) → in_set l.worked q ≡ (list_any (λ s. asked.works_in q (step_of s)) (take l.step-index l.steps) || in_set l.fn.worked q);
  passed : (q : List ℕ) → in_set l.passed q ≡ (list_any (λ s. asked.goes_through q (step_of s)) (take l.step-index l.steps) || in_set l.fn.passed q);
  made : (q : List ℕ) → in_set l.made q ≡ (list_any (λ s. asked.makes_dir q (step_of s)) (take l.step-index l.steps) || in_set l.fn.made q);
}
