use Rattle.std.proofs.Common.{◌≡◌, ◌++◌, take}
use Rattle.ips_aside.specs.Lost.{lost_of}
use Rattle.ips_aside.proofs.finding.gather.Given as goal

abbrev pub invariant-loop-i : goal.invariant-loop-i
invariant-loop-i l = record { so_far : l.lost.items ≡ l.fn.lost.items ++ lost_of (take l.i l.sides) }
