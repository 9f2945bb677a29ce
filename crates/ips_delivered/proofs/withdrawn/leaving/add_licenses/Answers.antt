use Rattle.std.proofs.Common.{List, map, take, get_or, sym, subst}
use Rattle.ips_text.proofs.Lists.{map_item}
use Rattle.ips_due.specs.Delivered.{License}
use Rattle.ips_delivered.specs.delivered.Named.{NamesLicense, license_told}
use Rattle.ips_delivered.proofs.delivered.Lent.{no_license, taken}
use Rattle.ips_delivered.proofs.delivered.Picked.{told_at}
use Rattle.ips_delivered.specs.withdrawn.Sets.{HasMore, gone_licenses, gone_with, goes}
use Rattle.ips_delivered.proofs.withdrawn.More.{pick_more, same_has}
use Rattle.ips_delivered.proofs.withdrawn.leaving.add_licenses.Goals as goal

pub add_license-requires : goal.add_license-requires
add_license-requires c =
    let licenses = c.args.licenses.now in
    let i = c.loop-license.license-index in
    told_at license_told NamesLicense licenses i (get_or licenses i no_license) c.loop-license-test.true (taken licenses i no_license c.loop-license-test.true) c.requires

pub loop-license-init : goal.loop-license-init
loop-license-init c = same_has c.args.gone.now

pub loop-license-preserved : goal.loop-license-preserved
loop-license-preserved c =
    let licenses = c.args.licenses.now in
    let staying = c.args.staying.now in
    let i = c.loop-license.license-index in
    let lt = c.loop-license-test.true in
    let one = get_or licenses i no_license in
    subst (λ (l : List License). HasMore c.args.gone.now c.add_license.new.gone (gone_licenses staying l)) (sym (map_item license_told licenses i one lt (taken licenses i no_license lt)))
    (pick_more (goes staying) (gone_with staying) c.args.gone.now c.loop-license.gone c.add_license.new.gone (map license_told (take i licenses)) (license_told one) c.loop-license.invariant c.in_ok-add_license.ensures)
