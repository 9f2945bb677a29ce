use Rattle.std.proofs.Common.{ℕ, ◌<◌, get_or, slice_get}
use Rattle.ips_problem.specs.Held.{posed_of}
use Rattle.ips_problem.specs.Posed.{count_at}
use Rattle.ips_next.proofs.choosing.is_choice.Given as goal

abbrev pub invariant-loop-stem : goal.invariant-loop-stem
invariant-loop-stem l = (k : ℕ) → k < l.stem → get_or l.choice k 0 < count_at (slice_get (posed_of l.problem).rows k)
