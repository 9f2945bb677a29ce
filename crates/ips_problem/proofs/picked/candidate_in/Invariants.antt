use Rattle.std.proofs.Common.{◌≡◌, drop}
use Rattle.ips_problem.specs.Posed.{candidate_of}
use Rattle.ips_problem.proofs.picked.candidate_in.Given as goal

abbrev pub invariant-loop-pair : goal.invariant-loop-pair
invariant-loop-pair l = candidate_of (drop l.pair-index l.set) l.stem ≡ candidate_of l.set l.stem
