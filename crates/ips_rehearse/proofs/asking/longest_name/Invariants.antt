use Rattle.std.proofs.Common.{◌≡◌, ◌⊎◌, [], None, take}
use Rattle.ips_text.specs.Ancestry.{parent}
use Rattle.ips_text.specs.Path.{IsPath}
use Rattle.ips_steps.specs.Steps.{path_of}
use Rattle.ips_steps.specs.View.{step_of}
use Rattle.ips_rehearse.specs.Asked as asked
use Rattle.ips_rehearse.specs.Asked.{IsLongest}
use Rattle.ips_rehearse.proofs.asking.longest_name.Given as goal

abbrev pub invariant-loop-step : goal.invariant-loop-step
invariant-loop-step l = record {
  longest : IsLongest (λ s. asked.last_part (path_of (step_of s))) (take l.step-index l.steps) l.longest;
  name : (l.longest ≡ []) ⊎ (IsPath l.longest × (parent l.longest ≡ None));
}
