use Rattle.std.proofs.Common.{length}
use Rattle.ips_refute.proofs.Spelled.{HasRead}
use Rattle.ips_refute.proofs.reading.read_refutation.Given as goal

abbrev pub invariant-loop-rest : goal.invariant-loop-rest
invariant-loop-rest l = HasRead l.counts l.bytes l.nogoods.items l.rest

abbrev pub decreases-loop-rest : goal.decreases-loop-rest
decreases-loop-rest l = length l.rest
