use Rattle.std.proofs.Common.{◌≡◌, ◌++◌, ◌≤◌, drop, length}
use Rattle.ips_emptied.specs.order.Chosen.{chosen, turned_places}
use Rattle.ips_emptied.proofs.order.choosing.add_back.Given as goal

abbrev pub decreases-loop-i : goal.decreases-loop-i
decreases-loop-i l = l.i

abbrev pub invariant-loop-i : goal.invariant-loop-i
invariant-loop-i l = record {
  within : l.i ≤ length l.marks;
  so_far : l.order.items ≡ l.fn.order.items ++ turned_places (chosen l.i (drop l.i l.marks));
}
