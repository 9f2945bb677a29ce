use Rattle.std.proofs.Common.{◌≡◌, ◌∙◌, ◌++◌, ◌∷◌, [], ◌<◌, cond, List, map, take, length, ap, sym, subst, arith}
use Rattle.std.specs.List.{AllByRecursion}
use Rattle.ips_text.proofs.Lists.{take_item}
use Rattle.ips_conflict.specs.declared.placed.Placed.{Placed}
use Rattle.ips_conflict.specs.Key.{is_legacy}
use Rattle.ips_due.specs.Delivered.{Legacy}
use Rattle.ips_delivered.specs.delivered.Delivering.{legacies_of, legacy_of}
use Rattle.ips_delivered.specs.delivered.Named.{NamesLegacy, legacy_told}
use Rattle.ips_delivered.proofs.delivered.Picked.{picked_all, picked_more}
use Rattle.ips_delivered.proofs.delivered.named.legacies.Goals as goal

pub loop-item-preserved : goal.loop-item-preserved
loop-item-preserved c =
    let admitted = c.args.admitted.now in
    let lt : c.loop-item.item-index < length admitted = omega arith in
    let front = take c.loop-item.item-index admitted in
    let item = c.item-item.result in
    subst (λ (l : List Placed). record { told : map legacy_told c.add_legacy.new.legacy.items ≡ legacies_of l; named : AllByRecursion NamesLegacy (legacies_of l) }) (sym (take_item admitted c.loop-item.item-index item lt c.item-item.is))
    (record {
      told =
          c.in_ok-add_legacy.ensures.told
          ∙ ap (λ (l : List Legacy). l ++ cond (is_legacy item.action.kind) (legacy_of item ∷ []) []) c.loop-item.invariant.told
          ∙ sym (picked_more (λ (p : Placed). is_legacy p.action.kind) legacy_of front item);
      named = picked_all (λ (p : Placed). is_legacy p.action.kind) legacy_of NamesLegacy front item c.loop-item.invariant.named c.in_ok-add_legacy.ensures.named;
    })
