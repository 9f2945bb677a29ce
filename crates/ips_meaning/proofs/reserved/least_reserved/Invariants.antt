use Rattle.std.proofs.Common.{take}
use Rattle.ips_meaning.proofs.Least.{LeastTo}
use Rattle.ips_meaning.proofs.reserved.least_reserved.Given as goal

abbrev pub invariant-loop-item : goal.invariant-loop-item
invariant-loop-item l = LeastTo (take l.item-index l.admitted) l.least
