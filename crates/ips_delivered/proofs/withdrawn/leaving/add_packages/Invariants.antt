use Rattle.std.proofs.Common.{map, take}
use Rattle.ips_delivered.specs.withdrawn.Sets.{HasMore, gone_packages}
use Rattle.ips_delivered.proofs.withdrawn.leaving.add_packages.Given as goal

abbrev pub invariant-loop-held : goal.invariant-loop-held
invariant-loop-held l = HasMore l.fn.gone l.gone (gone_packages l.first l.staying (map (λ p. p.stem) (take l.held-index l.packages)))
