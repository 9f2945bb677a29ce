use Rattle.std.proofs.Common.{◌≡◌, filter, take}
use Rattle.ips_turnover.specs.Seen.{is_unlike}
use Rattle.ips_turnover.proofs.comparing.unlike.Given as goal

abbrev pub invariant-loop-action : goal.invariant-loop-action
invariant-loop-action l = l.found.items ≡ filter (is_unlike l.kind l.lines) (take l.action-index l.actions)
