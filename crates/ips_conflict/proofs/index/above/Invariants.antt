use Rattle.ips_conflict.proofs.Indexed.{AboveTo}
use Rattle.ips_conflict.proofs.index.above.Given as goal

abbrev pub invariant-loop-item : goal.invariant-loop-item
invariant-loop-item l = AboveTo l.placed l.item-index l.above
