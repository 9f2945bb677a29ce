use Rattle.std.proofs.Common.{length}
use Rattle.ips_next.proofs.Scanning.{ArePutBehind}
use Rattle.ips_next.proofs.indexing.index_of.Given as goal

abbrev pub invariant-loop-package : goal.invariant-loop-package
invariant-loop-package l = ArePutBehind l.packages l.left l.index

abbrev pub decreases-loop-package : goal.decreases-loop-package
decreases-loop-package l = length l.left
