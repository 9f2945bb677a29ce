use Rattle.std.proofs.Common.{◌≡◌, ◌++◌, map, take}
use Rattle.ips_due.specs.Delivered.{legacy_record}
use Rattle.ips_due.specs.outstanding.Parts.{due_record}
use Rattle.ips_delivered.specs.delivered.Named.{legacy_told}
use Rattle.ips_delivered.proofs.delivered.recording.add_legacies.Given as goal

abbrev pub invariant-loop-one : goal.invariant-loop-one
invariant-loop-one l = map due_record l.records.items ≡ map due_record l.fn.records.items ++ map legacy_record (map legacy_told (take l.one-index l.legacy))
