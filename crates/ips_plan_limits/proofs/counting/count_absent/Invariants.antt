use Rattle.std.proofs.Common.{◌≡◌, ◌≤◌, take}
use Rattle.ips_plan_limits.specs.Counts.{absent_among}
use Rattle.ips_plan_limits.proofs.counting.count_absent.Given as goal

abbrev pub invariant-loop-item : goal.invariant-loop-item
invariant-loop-item l = record { count : l.count ≡ absent_among l.packages (take l.item-index l.others); few : l.count ≤ l.item-index }
