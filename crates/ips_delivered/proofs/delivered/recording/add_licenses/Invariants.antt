use Rattle.std.proofs.Common.{◌≡◌, ◌++◌, map, take}
use Rattle.ips_due.specs.Delivered.{license_record}
use Rattle.ips_due.specs.outstanding.Parts.{due_record}
use Rattle.ips_delivered.specs.delivered.Named.{license_told}
use Rattle.ips_delivered.proofs.delivered.recording.add_licenses.Given as goal

abbrev pub invariant-loop-license : goal.invariant-loop-license
invariant-loop-license l = map due_record l.records.items ≡ map due_record l.fn.records.items ++ map license_record (map license_told (take l.license-index l.licenses))
