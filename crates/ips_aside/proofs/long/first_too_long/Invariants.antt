use Rattle.std.proofs.Common.{take}
use Rattle.std.specs.Option.{option_map}
use Rattle.ips_aside.specs.Long.{IsFirstAt, too_long_at}
use Rattle.ips_aside.proofs.long.first_too_long.Given as goal

abbrev pub invariant-loop-i : goal.invariant-loop-i
invariant-loop-i l = IsFirstAt (too_long_at (take l.i l.sides)) (option_map (λ p. p.now.bytes) l.first)
