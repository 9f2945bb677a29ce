use Rattle.std.proofs.Common.{◌≡◌, take, slice_get}
use Rattle.ips_problem.specs.Held.{posed_of}
use Rattle.ips_next.specs.Tried.{offered_in}
use Rattle.ips_next.proofs.tried.tried_of.Given as goal

abbrev pub invariant-loop-candidate : goal.invariant-loop-candidate
invariant-loop-candidate l = l.candidates.items ≡ take l.candidate (offered_in (slice_get (posed_of l.problem).rows l.stem))
