use Rattle.ips_conflict.proofs.Indexed.{GroupsTo}
use Rattle.ips_conflict.proofs.index.groups.Given as goal

abbrev pub invariant-loop-i : goal.invariant-loop-i
invariant-loop-i l = GroupsTo l.placed l.i l.groups
