use Rattle.std.proofs.Common.{map, take}
use Rattle.ips_delivered.specs.delivered.Named.{legacy_told}
use Rattle.ips_delivered.specs.withdrawn.Sets.{HasMore, gone_legacy}
use Rattle.ips_delivered.proofs.withdrawn.leaving.add_legacy.Given as goal

abbrev pub invariant-loop-one : goal.invariant-loop-one
invariant-loop-one l = HasMore l.fn.gone l.gone (gone_legacy l.staying (map legacy_told (take l.one-index l.legacy)))
