use Rattle.std.specs.BTreeSet.{btree_set_len}
use Rattle.ips_passwd.specs.Entries.{AreFree}
use Rattle.ips_passwd.proofs.free.count_used.Given as goal

abbrev pub invariant-loop-first : goal.invariant-loop-first
invariant-loop-first l = AreFree l.free l.lines

abbrev pub decreases-loop-first : goal.decreases-loop-first
decreases-loop-first l = btree_set_len l.free
