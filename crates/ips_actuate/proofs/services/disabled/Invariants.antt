use Rattle.std.proofs.Common.{take}
use Rattle.ips_actuate.specs.Gathering.{IsSetOf, Gives, Disables}
use Rattle.ips_actuate.proofs.services.disabled.Given as goal

abbrev pub invariant-loop-action : goal.invariant-loop-action
invariant-loop-action l = IsSetOf (Gives (Disables l.standing.new_lines l.standing.new_keys) (take l.action-index l.old)) l.set
