use Rattle.std.proofs.Common.{map, take}
use Rattle.ips_delivered.specs.delivered.Named.{license_told}
use Rattle.ips_delivered.specs.withdrawn.Sets.{HasJust, license_place}
use Rattle.ips_delivered.proofs.withdrawn.staying.licenses.Given as goal

abbrev pub invariant-loop-license : goal.invariant-loop-license
invariant-loop-license l = record {
  stems : HasJust l.staying.stems (map (λ x. x.stem) (map license_told (take l.license-index l.licenses)));
  places : HasJust l.staying.places (map license_place (map license_told (take l.license-index l.licenses)));
}
