use Rattle.std.proofs.Common.{length}
use Rattle.ips_files.proofs.Tellings.{IsTold}
use Rattle.ips_files.proofs.telling.tell.Given as goal

abbrev pub invariant-loop-rest : goal.invariant-loop-rest
invariant-loop-rest g l = IsTold g.O.Sink.taking l.text l.rest l.initial.out l.out

abbrev pub decreases-loop-rest : goal.decreases-loop-rest
decreases-loop-rest g l = length l.rest
