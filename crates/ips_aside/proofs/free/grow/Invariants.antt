use Rattle.ips_conflict.specs.Index.{has_path}
use Rattle.ips_aside.proofs.FirstFree.{IsTried}
use Rattle.ips_aside.proofs.free.grow.Given as goal

abbrev pub invariant-loop-time : goal.invariant-loop-time
invariant-loop-time l = IsTried (has_path l.taken) l.ending l.fn.name.items l.name.items
