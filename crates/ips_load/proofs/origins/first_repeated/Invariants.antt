use Rattle.ips_load.proofs.OriginsDiffer.{SeenSoFar}
use Rattle.ips_load.proofs.origins.first_repeated.Given as goal

abbrev pub invariant-loop-place : goal.invariant-loop-place
invariant-loop-place l = SeenSoFar l.origins l.place l.names
