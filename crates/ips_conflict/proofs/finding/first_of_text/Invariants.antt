use Rattle.ips_conflict.proofs.FirstOver.{NoneBefore}
use Rattle.ips_conflict.proofs.finding.first_of_text.Given as goal

abbrev pub invariant-loop-rank : goal.invariant-loop-rank
invariant-loop-rank l = NoneBefore l.placed l.text l.rank
