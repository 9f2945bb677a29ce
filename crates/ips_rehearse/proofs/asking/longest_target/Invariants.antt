use Rattle.std.proofs.Common.{take}
use Rattle.ips_steps.specs.View.{step_of}
use Rattle.ips_rehearse.specs.Asked as asked
use Rattle.ips_rehearse.specs.Asked.{IsLongest}
use Rattle.ips_rehearse.proofs.asking.longest_target.Given as goal

abbrev pub invariant-loop-step : goal.invariant-loop-step
invariant-loop-step l = IsLongest (λ s. asked.target_of (step_of s)) (take l.step-index l.steps) l.longest
