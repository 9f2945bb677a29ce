use Rattle.std.proofs.Common.{get_or}
use Rattle.ips_due.specs.Delivered.{license_record}
use Rattle.ips_delivered.specs.delivered.Named.{NamesLicense, license_told}
use Rattle.ips_delivered.proofs.delivered.Lent.{no_license, taken}
use Rattle.ips_delivered.proofs.delivered.Picked.{records_more, told_at}
use Rattle.ips_delivered.proofs.delivered.recording.add_licenses.Goals as goal

pub license_record-requires : goal.license_record-requires
license_record-requires c =
    let licenses = c.args.licenses.now in
    let i = c.loop-license.license-index in
    told_at license_told NamesLicense licenses i (get_or licenses i no_license) c.loop-license-test.true (taken licenses i no_license c.loop-license-test.true) c.requires

pub loop-license-preserved : goal.loop-license-preserved
loop-license-preserved c =
    let licenses = c.args.licenses.now in
    let i = c.loop-license.license-index in
    let lt = c.loop-license-test.true in
    records_more license_told license_record c.args.records.now.items c.loop-license.records.items c.push.new.self.items c.in_ok-license_record.field-0 licenses i (get_or licenses i no_license) lt (taken licenses i no_license lt) c.loop-license.invariant c.in_ok-push.ensures.items c.in_ok-license_record.ensures
