use Rattle.std.proofs.Common.{take}
use Rattle.std.specs.Option.{option_map}
use Rattle.ips_aside.specs.Long.{IsFirstAt, long_name_at}
use Rattle.ips_aside.proofs.long.first_long_name.Given as goal

abbrev pub invariant-loop-i : goal.invariant-loop-i
invariant-loop-i l = IsFirstAt (long_name_at (take l.i l.names)) (option_map (λ p. p.now.bytes) l.first)
