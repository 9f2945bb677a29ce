use Rattle.std.proofs.Common.{map, take}
use Rattle.ips_delivered.specs.delivered.Named.{license_told}
use Rattle.ips_delivered.specs.new_licenses.Kept.{HasKeys}
use Rattle.ips_delivered.proofs.new_licenses.before.keys.Given as goal

abbrev pub invariant-loop-license : goal.invariant-loop-license
invariant-loop-license l = HasKeys l.keys (map license_told (take l.license-index l.licenses))
