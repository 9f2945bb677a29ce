use Rattle.std.proofs.Common.{◌≡◌, map, take}
use Rattle.ips_salvage.specs.Destroying.{says_taken}
use Rattle.ips_salvage.proofs.away.taken_away.Given as goal

abbrev pub invariant-loop-i : goal.invariant-loop-i
invariant-loop-i l = l.away.items ≡ map says_taken (take l.i l.table.said.items)
