use Rattle.std.proofs.Common.{◌≡◌, ◌∷◌, max, drop}
use Rattle.ips_problem.proofs.Numbers.{present}
use Rattle.ips_problem.specs.Posed.{greatest_of}
use Rattle.ips_problem.proofs.numbering.greatest.Given as goal

abbrev pub invariant-loop-number : goal.invariant-loop-number
invariant-loop-number l = max l.greatest (greatest_of (present (drop l.number-index l.mentioned))) ≡ greatest_of (l.own ∷ present l.mentioned)
