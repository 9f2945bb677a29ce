use Rattle.std.proofs.Common.{◌<◌, length, arith}
use Rattle.ips_due.specs.Delivered.{legacy_record}
use Rattle.ips_delivered.specs.delivered.Named.{NamesLegacy, legacy_told}
use Rattle.ips_delivered.proofs.delivered.Picked.{records_more, told_at}
use Rattle.ips_delivered.proofs.delivered.recording.add_legacies.Goals as goal

pub legacy_record-requires : goal.legacy_record-requires
legacy_record-requires c = told_at legacy_told NamesLegacy c.args.legacy.now c.loop-one.one-index c.one-item.result (omega arith) c.one-item.is c.requires

pub loop-one-preserved : goal.loop-one-preserved
loop-one-preserved c =
    let lt : c.loop-one.one-index < length c.args.legacy.now = omega arith in
    records_more legacy_told legacy_record c.args.records.now.items c.loop-one.records.items c.push.new.self.items c.in_ok-legacy_record.field-0 c.args.legacy.now c.loop-one.one-index c.one-item.result lt c.one-item.is c.loop-one.invariant c.in_ok-push.ensures.items c.in_ok-legacy_record.ensures
