use Rattle.std.proofs.Common.{length}
use Rattle.std.specs.List.Sorted.{IsStrictlySortedBy}
use Rattle.ips_index.specs.Rows.{row_cmp}
use Rattle.ips_index.proofs.Growing.{Going}
use Rattle.ips_index.proofs.sets.insert_all.Given as goal

abbrev pub invariant-loop-row : goal.invariant-loop-row
invariant-loop-row l = Going l.initial.set.keys l.fn.rows.items l.left.items l.set × (IsStrictlySortedBy row_cmp l.initial.set.keys → IsStrictlySortedBy row_cmp l.set.keys)

abbrev pub decreases-loop-row : goal.decreases-loop-row
decreases-loop-row l = length l.left.items
