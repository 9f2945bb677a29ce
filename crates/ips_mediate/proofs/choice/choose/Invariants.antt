use Rattle.std.proofs.Common.{take}
use Rattle.std.specs.Prelude.{option_map}
use Rattle.ips_mediate.proofs.Ranked.{Found}
use Rattle.ips_mediate.proofs.choice.choose.Given as goal

abbrev pub invariant-loop-i : goal.invariant-loop-i
invariant-loop-i l = Found (take l.i l.links) (option_map (λ s. s.now) l.set) l.found
