use Rattle.std.proofs.Common.{map, []}
use Rattle.std.specs.List.Sorted.{IsStrictlySortedBy}
use Rattle.ips_index.specs.Rows.{row_cmp}
use Rattle.ips_index.proofs.Growing.{Grown}
use Rattle.ips_index.proofs.sets.copied_set.Given as goal

abbrev pub invariant-loop-row : goal.invariant-loop-row
invariant-loop-row l = Grown [] (map (λ b. b.now) l.yielded) l.copies × IsStrictlySortedBy row_cmp l.copies.keys
