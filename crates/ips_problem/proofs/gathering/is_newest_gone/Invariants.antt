use Rattle.std.proofs.Common.{◌≡◌, false, take}
use Rattle.ips_problem.specs.Gathered as spec
use Rattle.ips_problem.proofs.gathering.is_newest_gone.Given as goal

abbrev pub invariant-loop-read : goal.invariant-loop-read
invariant-loop-read l = spec.is_newest_gone (take l.read-index l.reads) ≡ false
