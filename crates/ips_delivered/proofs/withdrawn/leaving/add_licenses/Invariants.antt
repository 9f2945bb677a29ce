use Rattle.std.proofs.Common.{map, take}
use Rattle.ips_delivered.specs.delivered.Named.{license_told}
use Rattle.ips_delivered.specs.withdrawn.Sets.{HasMore, gone_licenses}
use Rattle.ips_delivered.proofs.withdrawn.leaving.add_licenses.Given as goal

abbrev pub invariant-loop-license : goal.invariant-loop-license
invariant-loop-license l = HasMore l.fn.gone l.gone (gone_licenses l.staying (map license_told (take l.license-index l.licenses)))
