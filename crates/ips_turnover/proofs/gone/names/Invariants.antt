use Rattle.std.proofs.Common.{take}
use Rattle.ips_conflict.specs.Key.{value_of}
use Rattle.ips_turnover.specs.Turnover.{is_a}
use Rattle.ips_turnover.proofs.Holding.{HasAll}
use Rattle.ips_turnover.proofs.gone.names.Given as goal

abbrev pub invariant-loop-action : goal.invariant-loop-action
invariant-loop-action l = HasAll (value_of l.key) (is_a l.kind) (take l.action-index l.actions) l.names
