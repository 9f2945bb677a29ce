use Rattle.std.proofs.Common.{take}
use Rattle.std.specs.List.Sorted.{IsStrictlySortedBy}
use Rattle.ips_index.specs.Rows.{row_cmp}
use Rattle.ips_index.proofs.Growing.{Grown}
use Rattle.ips_index.proofs.sets.add_all.Given as goal

abbrev pub invariant-loop-row : goal.invariant-loop-row
invariant-loop-row l = Grown l.initial.set.keys (take l.row-index l.rows) l.set × (IsStrictlySortedBy row_cmp l.initial.set.keys → IsStrictlySortedBy row_cmp l.set.keys)
