use Rattle.std.proofs.Common.{get_or}
use Rattle.ips_due.specs.Delivered.{License}
use Rattle.ips_delivered.specs.delivered.Named.{NamesLicense, license_told}
use Rattle.ips_delivered.proofs.delivered.Lent.{no_license, taken}
use Rattle.ips_delivered.proofs.delivered.Picked.{told_at}
use Rattle.ips_delivered.specs.withdrawn.Sets.{license_place}
use Rattle.ips_delivered.proofs.withdrawn.More.{just_told}
use Rattle.ips_delivered.proofs.withdrawn.staying.licenses.Goals as goal

pub add_license-requires : goal.add_license-requires
add_license-requires c =
    let licenses = c.args.licenses.now in
    let i = c.loop-license.license-index in
    told_at license_told NamesLicense licenses i (get_or licenses i no_license) c.loop-license-test.true (taken licenses i no_license c.loop-license-test.true) c.requires

pub loop-license-preserved : goal.loop-license-preserved
loop-license-preserved c =
    let licenses = c.args.licenses.now in
    let i = c.loop-license.license-index in
    let lt = c.loop-license-test.true in
    let one = get_or licenses i no_license in
    let is = taken licenses i no_license lt in
    record {
      stems = just_told license_told (λ (l : License). l.stem) c.loop-license.staying.stems c.add_license.new.staying.stems licenses i one lt is c.loop-license.invariant.stems c.in_ok-add_license.ensures.stems;
      places = just_told license_told license_place c.loop-license.staying.places c.add_license.new.staying.places licenses i one lt is c.loop-license.invariant.places c.in_ok-add_license.ensures.places;
    }
