use Rattle.ips_steps.proofs.AtTurn.{can_at, after_next, frees_at, sets_at, rest_feasible, rest_after}
use Rattle.ips_steps.proofs.Linked.{after_within}
use Rattle.ips_steps.proofs.laws.laid_turn_by_turn.Goals as goal

pub returns : goal.returns
returns c = record { can = can_at; next = after_next; frees = frees_at; sets = sets_at; rest = rest_feasible; whole = rest_after; within = after_within }
