use Rattle.std.proofs.Common.{◌≡◌, ◌≤◌, take}
use Rattle.ips_plan_limits.specs.Counts.{updated_from}
use Rattle.ips_plan_limits.proofs.counting.count_updated.Given as goal

abbrev pub invariant-loop-item : goal.invariant-loop-item
invariant-loop-item l = record { count : l.count ≡ updated_from l.old (take l.item-index l.new); few : l.count ≤ l.item-index }
