use Rattle.std.proofs.Common.{◌≡◌, ◌++◌, take}
use Rattle.ips_emptied.specs.order.Chosen.{chosen}
use Rattle.ips_emptied.proofs.order.choosing.add.Given as goal

abbrev pub invariant-loop-i : goal.invariant-loop-i
invariant-loop-i l = l.order.items ≡ l.fn.order.items ++ chosen 0 (take l.i l.marks)
