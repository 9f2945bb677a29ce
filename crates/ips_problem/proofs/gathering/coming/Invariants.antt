use Rattle.std.proofs.Common.{◌≡◌, take}
use Rattle.ips_problem.specs.Gathered.{coming_from}
use Rattle.ips_problem.proofs.gathering.coming.Given as goal

abbrev pub invariant-loop-number : goal.invariant-loop-number
invariant-loop-number l = l.numbers.items ≡ coming_from 0 (take l.number l.reads)
