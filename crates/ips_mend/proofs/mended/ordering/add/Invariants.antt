use Rattle.std.proofs.Common.{◌≡◌, ◌++◌, map, take}
use Rattle.ips_change.specs.wanted.Wanted.{want_of}
use Rattle.ips_emptied.specs.order.Chosen.{chosen}
use Rattle.ips_mend.specs.mended.Ordering.{is_of_at}
use Rattle.ips_mend.proofs.mended.ordering.add.Given as goal

abbrev pub invariant-loop-i : goal.invariant-loop-i
invariant-loop-i l = l.order.items ≡ l.fn.order.items ++ chosen 0 (take l.i (map (is_of_at l.group (want_of l.want)) (want_of l.want).keys))
