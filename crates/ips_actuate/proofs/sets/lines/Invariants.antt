use Rattle.std.proofs.Common.{take}
use Rattle.ips_actuate.specs.Actuators.{HasLine}
use Rattle.ips_actuate.specs.Gathering.{IsSetOf}
use Rattle.ips_actuate.proofs.sets.lines.Given as goal

abbrev pub invariant-loop-action : goal.invariant-loop-action
invariant-loop-action l = IsSetOf (HasLine (take l.action-index l.actions)) l.lines
