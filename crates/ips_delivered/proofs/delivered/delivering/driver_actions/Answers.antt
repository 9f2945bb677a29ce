use Rattle.std.proofs.Common.{◌≡◌, ◌∙◌, ◌∷◌, [], ◌++◌, ◌<◌, cond, List, take, length, sym, ap, subst, arith}
use Rattle.ips_text.proofs.Lists.{take_item}
use Rattle.ips_action.specs.Action.{Fields}
use Rattle.ips_conflict.specs.declared.placed.Placed.{Placed}
use Rattle.ips_delivered.specs.delivered.Kept.{is_driver}
use Rattle.ips_delivered.proofs.delivered.Drivers.{actions_of, drivers_more, drivers_of}
use Rattle.ips_delivered.proofs.delivered.delivering.driver_actions.Goals as goal

pub loop-item-preserved : goal.loop-item-preserved
loop-item-preserved c =
    let admitted = c.args.admitted.now in
    let lt : c.loop-item.item-index < length admitted = omega arith in
    let front = take c.loop-item.item-index admitted in
    let item = c.item-item.result in
    subst (λ (l : List Placed). c.add_driver.new.actions.items ≡ actions_of (drivers_of l)) (sym (take_item admitted c.loop-item.item-index item lt c.item-item.is))
    (c.in_ok-add_driver.ensures ∙ ap (λ (l : List Fields). l ++ cond (is_driver item.action.kind) (item.action ∷ []) []) c.loop-item.invariant ∙ sym (drivers_more front item))
