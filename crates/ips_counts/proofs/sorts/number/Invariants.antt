use Rattle.std.proofs.Common.{◌≡◌, ◌≤◌, map, take}
use Rattle.ips_steps.specs.View.{step_of}
use Rattle.ips_kinds.specs.Tallies.{count_of_sort}
use Rattle.ips_counts.proofs.sorts.number.Given as goal

abbrev pub invariant-loop-step : goal.invariant-loop-step
invariant-loop-step l = record { count : l.count ≡ count_of_sort l.sort (map step_of (take l.step-index l.steps)); few : l.count ≤ l.step-index }
