use Rattle.std.proofs.Common.{◌≡◌, ◌∙◌, ◌++◌, ◌∷◌, [], ◌<◌, cond, List, map, take, length, ap, sym, subst, arith}
use Rattle.std.specs.List.{AllByRecursion}
use Rattle.ips_text.proofs.Lists.{take_item}
use Rattle.ips_conflict.specs.declared.placed.Placed.{Placed}
use Rattle.ips_due.specs.Delivered.{License}
use Rattle.ips_delivered.specs.delivered.Delivering.{is_license, license_of, licenses_of}
use Rattle.ips_delivered.specs.delivered.Named.{NamesLicense, license_told}
use Rattle.ips_delivered.proofs.delivered.Picked.{picked_all, picked_more, stem_at}
use Rattle.ips_delivered.proofs.delivered.named.licenses.Goals as goal

pub add_license-requires : goal.add_license-requires
add_license-requires c = stem_at c.args.admitted.now c.loop-item.item-index c.item-item.result (omega arith) c.item-item.is c.requires

pub loop-item-preserved : goal.loop-item-preserved
loop-item-preserved c =
    let admitted = c.args.admitted.now in
    let lt : c.loop-item.item-index < length admitted = omega arith in
    let front = take c.loop-item.item-index admitted in
    let item = c.item-item.result in
    subst (λ (l : List Placed). record { told : map license_told c.add_license.new.licenses.items ≡ licenses_of l; named : AllByRecursion NamesLicense (licenses_of l) }) (sym (take_item admitted c.loop-item.item-index item lt c.item-item.is))
    (record {
      told =
          c.in_ok-add_license.ensures.told
          ∙ ap (λ (l : List License). l ++ cond (is_license item.action.kind) (license_of item ∷ []) []) c.loop-item.invariant.told
          ∙ sym (picked_more (λ (p : Placed). is_license p.action.kind) license_of front item);
      named = picked_all (λ (p : Placed). is_license p.action.kind) license_of NamesLicense front item c.loop-item.invariant.named c.in_ok-add_license.ensures.named;
    })
