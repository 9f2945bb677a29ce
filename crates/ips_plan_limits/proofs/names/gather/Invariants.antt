use Rattle.std.proofs.Common.{◌≡◌, ◌++◌, drop, map}
use Rattle.ips_steps.specs.View.{step_of}
use Rattle.ips_plan_limits.specs.Names.{targets_of}
use Rattle.ips_plan_limits.proofs.names.gather.Given as goal

abbrev pub invariant-loop-step : goal.invariant-loop-step
invariant-loop-step l = map (λ t. t.now) l.targets.items ++ targets_of (map step_of (drop l.step-index l.steps)) ≡ map (λ t. t.now) l.fn.targets.items ++ targets_of (map step_of l.steps)
