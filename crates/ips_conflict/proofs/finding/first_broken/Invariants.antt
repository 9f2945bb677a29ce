use Rattle.ips_conflict.specs.Search.{NoneBelow}
use Rattle.ips_conflict.proofs.finding.first_broken.Given as goal

abbrev pub invariant-loop-rank : goal.invariant-loop-rank
invariant-loop-rank l = NoneBelow l.placed (record { sort = l.sort; text = l.text }) l.rank
