use Rattle.std.proofs.Common.{◌≡◌, take}
use Rattle.ips_delivered.proofs.delivered.Drivers.{actions_of, drivers_of}
use Rattle.ips_delivered.proofs.delivered.delivering.driver_actions.Given as goal

abbrev pub invariant-loop-item : goal.invariant-loop-item
invariant-loop-item l = l.actions.items ≡ actions_of (drivers_of (take l.item-index l.admitted))
