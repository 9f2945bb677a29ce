use Rattle.std.proofs.Common.{◌∙◌, ◌<◌, List, Option, take, take_all, length, sym, ap, arith, subst}
use Rattle.ips_text.proofs.Lists.{take_item}
use Rattle.ips_conflict.specs.declared.placed.Placed.{Placed}
use Rattle.ips_delivered.specs.delivered.Kept.{AreOwners, owner_with}
use Rattle.ips_delivered.proofs.delivered.Owning.{one_more}
use Rattle.ips_delivered.proofs.delivered.owners.owners.Goals as goal

pub loop-item-preserved : goal.loop-item-preserved
loop-item-preserved c =
    let admitted = c.args.admitted.now in
    let lt : c.loop-item.item-index < length admitted = omega arith in
    let front = take c.loop-item.item-index admitted in
    let item = c.item-item.result in
    record {
      owners = subst (λ (l : List Placed). AreOwners l c.add.new.owners) (sym (take_item admitted c.loop-item.item-index item lt c.item-item.is))
          (λ q. c.in_ok-add.ensures.owners q ∙ ap (λ (o : Option Placed). owner_with q o item) (c.loop-item.invariant.owners q) ∙ sym (one_more q front item));
      proper = λ q. c.in_ok-add.ensures.proper q (c.loop-item.invariant.proper q);
    }

pub returns-clause-owners : goal.returns-clause-owners
returns-clause-owners c = subst (λ (l : List Placed). AreOwners l c.loop-item.owners) (take_all c.loop-item.item-index c.args.admitted.now (omega arith)) c.loop-item.invariant.owners
