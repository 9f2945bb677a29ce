use Rattle.std.proofs.Common.{take}
use Rattle.ips_actuate.specs.Gathering.{HasKey, IsSetOf}
use Rattle.ips_actuate.proofs.sets.keys.Given as goal

abbrev pub invariant-loop-action : goal.invariant-loop-action
invariant-loop-action l = IsSetOf (HasKey (take l.action-index l.actions)) l.keys
