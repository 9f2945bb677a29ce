use Rattle.std.proofs.Common.{◌∙◌, ◌||◌, ℕ, List, Vec, Global, map, take, get_or, ap, sym, subst}
use Rattle.std.specs.List.{list_any}
use Rattle.ips_text.proofs.Lists.{map_item}
use Rattle.ips_action.specs.Attrs.{is_same}
use Rattle.ips_conflict.proofs.Kept.{any_insert}
use Rattle.ips_due.specs.Delivered.{License}
use Rattle.ips_delivered.specs.delivered.Named.{license_told}
use Rattle.ips_delivered.proofs.delivered.Lent.{no_license, taken}
use Rattle.ips_delivered.specs.new_licenses.Kept.{HasKeys, license_key}
use Rattle.ips_delivered.proofs.new_licenses.Told.{any_more}
use Rattle.ips_delivered.proofs.new_licenses.before.keys.Goals as goal

pub loop-license-preserved : goal.loop-license-preserved
loop-license-preserved c =
    let licenses = c.args.licenses.now in
    let i = c.loop-license.license-index in
    let lt = c.loop-license-test.true in
    let one = get_or licenses i no_license in
    let front = map license_told (take i licenses) in
    subst (HasKeys c.insert.new.self) (sym (map_item license_told licenses i one lt (taken licenses i no_license lt)))
    (λ q.
    ap (λ (keys : List (Vec ℕ Global)). list_any (λ (k : Vec ℕ Global). is_same q k.items) keys) c.in_ok-insert.ensures.keys
    ∙ any_insert c.in_ok-license_key.field-0 q c.loop-license.keys.keys
    ∙ (λ j. is_same q (c.in_ok-license_key.ensures j) || c.loop-license.invariant q j)
    ∙ any_more (λ (l : License). is_same q (license_key l)) front (license_told one))
