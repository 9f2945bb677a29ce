use Rattle.std.proofs.Common.{map, take}
use Rattle.ips_delivered.specs.withdrawn.Sets.{HasJust}
use Rattle.ips_delivered.proofs.withdrawn.staying.stems.Given as goal

abbrev pub invariant-loop-held : goal.invariant-loop-held
invariant-loop-held l = HasJust l.stems (map (λ p. p.stem) (take l.held-index l.packages))
