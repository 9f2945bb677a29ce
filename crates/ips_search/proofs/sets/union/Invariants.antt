use Rattle.std.proofs.Common.{◌+◌, List, length}
use Rattle.ips_refute.specs.declared.nogoods.Pair.{Pair}
use Rattle.ips_refute.specs.Meaning.{Ascends, IsSubset}
use Rattle.ips_search.proofs.Unions.{Merging}
use Rattle.ips_search.proofs.sets.union.Given as goal

abbrev pub invariant-loop-pair : goal.invariant-loop-pair
invariant-loop-pair l = (whole : List Pair) → Ascends whole → IsSubset l.first whole → IsSubset l.second whole → Merging whole l.first l.second l.left l.right l.set.items

abbrev pub decreases-loop-pair : goal.decreases-loop-pair
decreases-loop-pair l = length l.left + length l.right
