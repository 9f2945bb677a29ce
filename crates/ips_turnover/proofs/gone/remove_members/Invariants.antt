use Rattle.std.proofs.Common.{◌≡◌, ◌++◌, map, take, drop}
use Rattle.ips_turnover.specs.Seen.{has_gone}
use Rattle.ips_turnover.specs.Turnover.{left_by}
use Rattle.ips_turnover.proofs.gone.remove_members.Given as goal

abbrev pub invariant-loop-i : goal.invariant-loop-i
invariant-loop-i l = l.lines ≡ map (left_by (has_gone l.gone)) (take l.i l.initial.lines) ++ drop l.i l.initial.lines
