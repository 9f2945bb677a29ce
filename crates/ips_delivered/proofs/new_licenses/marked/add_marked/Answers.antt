use Rattle.std.proofs.Common.{◌∙◌, ◌&&◌, ◌||◌, List, ℕ, Bor, map, sym, ap}
use Rattle.ips_text.specs.Ancestry.{same_path}
use Rattle.ips_conflict.specs.Index.{has_path}
use Rattle.ips_conflict.proofs.Kept.{found_any}
use Rattle.ips_delivered.specs.delivered.Delivering.{is_license, license_of}
use Rattle.ips_delivered.specs.new_licenses.New.{delivers_new, has_name, is_marked, was_delivered}
use Rattle.ips_delivered.specs.new_licenses.Kept.{holds, license_key, told}
use Rattle.ips_delivered.proofs.new_licenses.Pairs.{marked_new, marked_old, none_more, one_more, put_pair}
use Rattle.ips_delivered.proofs.new_licenses.Told.{was_same}
use Rattle.ips_delivered.proofs.new_licenses.marked.add_marked.Goals as goal

pub returns-then-contains : goal.returns-then-contains
returns-then-contains c = λ licenses named keys one.
    let item = c.args.item.now in
    let l = license_of item in
    let key = c.args.key.now in
    let made = c.license_of-license.ensures in
    let found = sym (c.contains.ensures ∙ found_any c.as_slice.result.now c.args.was.now.keys ∙ ap (has_path c.args.was.now) (c.as_slice.ensures.value ∙ c.in_ok-place.ensures ∙ ap license_key made.told)) ∙ c.if-contains.true in
    let was = sym (keys (license_key l) ∙ was_same licenses l named made.named) ∙ found in
    none_more (holds c.args.names.now one) (delivers_new licenses key one item)
    (marked_old (is_license item.action.kind) (is_marked key item) (was_delivered licenses l) (same_path item.stem one.0 && same_path l.name one.1) (sym c.is_marked.ensures ∙ c.if-not-is_marked.false) was)

pub returns : goal.returns
returns c = λ licenses named keys one.
    let item = c.args.item.now in
    let l = license_of item in
    let key = c.args.key.now in
    let names = c.args.names.now in
    let lent = c.license_of-license.result in
    let made = c.license_of-license.ensures in
    let found = sym (c.contains.ensures ∙ found_any c.as_slice.result.now c.args.was.now.keys ∙ ap (has_path c.args.was.now) (c.as_slice.ensures.value ∙ c.in_ok-place.ensures ∙ ap license_key made.told)) ∙ c.if-contains.false in
    let was = sym (keys (license_key l) ∙ was_same licenses l named made.named) ∙ found in
    ap (λ (ks : List (Bor (List ℕ) × Bor (List ℕ))). has_name (map told ks) one) c.in_ok-insert.ensures.keys
    ∙ put_pair (lent.stem, lent.name) one names.keys
    ∙ (λ i. (same_path (made.told i).stem one.0 && same_path (made.told i).name one.1) || holds names one)
    ∙ one_more (holds names one) (delivers_new licenses key one item) (same_path item.stem one.0 && same_path l.name one.1)
    (marked_new (is_license item.action.kind) (is_marked key item) (was_delivered licenses l) (same_path item.stem one.0 && same_path l.name one.1) (sym c.is_marked.ensures ∙ c.if-not-is_marked.false) was)
