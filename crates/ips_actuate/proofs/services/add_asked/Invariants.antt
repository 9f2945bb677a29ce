use Rattle.std.proofs.Common.{take}
use Rattle.ips_actuate.specs.Gathering.{IsGrown, Gives, Asks}
use Rattle.ips_actuate.proofs.services.add_asked.Given as goal

abbrev pub invariant-loop-action : goal.invariant-loop-action
invariant-loop-action l = IsGrown (Gives (Asks l.key l.lines l.disabled) (take l.action-index l.actions)) l.initial.set l.set
