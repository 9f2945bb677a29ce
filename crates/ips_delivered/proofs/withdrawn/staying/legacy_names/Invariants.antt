use Rattle.std.proofs.Common.{map, take}
use Rattle.ips_delivered.specs.delivered.Named.{legacy_told}
use Rattle.ips_delivered.specs.withdrawn.Sets.{HasJust}
use Rattle.ips_delivered.proofs.withdrawn.staying.legacy_names.Given as goal

abbrev pub invariant-loop-one : goal.invariant-loop-one
invariant-loop-one l = HasJust l.names (map (λ g. g.pkg) (map legacy_told (take l.one-index l.legacy)))
