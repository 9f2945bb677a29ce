use Rattle.std.proofs.Common.{take}
use Rattle.ips_action.specs.Action.{line_text}
use Rattle.ips_turnover.specs.Turnover.{is_a}
use Rattle.ips_turnover.proofs.Holding.{HasAll}
use Rattle.ips_turnover.proofs.comparing.lines.Given as goal

abbrev pub invariant-loop-action : goal.invariant-loop-action
invariant-loop-action l = HasAll (line_text) (is_a l.kind) (take l.action-index l.actions) l.lines
