use Rattle.std.proofs.Common.{◌≡◌, drop, map}
use Rattle.std.specs.Option.{option_map}
use Rattle.ips_steps.specs.View.{step_of}
use Rattle.ips_plan_limits.specs.Limits.{first_large, large_told, least_large}
use Rattle.ips_plan_limits.proofs.large.first_large.Given as goal

abbrev pub invariant-loop-step : goal.invariant-loop-step
invariant-loop-step l = least_large l.staged (option_map large_told l.least) (map step_of (drop l.step-index l.steps)) ≡ first_large l.staged (map step_of l.steps)
