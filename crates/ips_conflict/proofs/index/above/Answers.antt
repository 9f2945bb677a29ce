use Rattle.std.proofs.Common.{◌∙◌, sym, subst, ap}
use Rattle.std.specs.Prelude.{codes}
use Rattle.ips_conflict.specs.Key.{value_of}
use Rattle.ips_conflict.proofs.Places.{at_index}
use Rattle.ips_conflict.proofs.Indexed.{AboveTo, above_none, above_holds, above_more, above_same, above_done, marks_at}
use Rattle.ips_conflict.proofs.index.above.Goals as goal
use Rattle.ips_conflict.proofs.index.above.Goals.{then-has_path_key+in_ok-mark, else-has_path_key}

pub loop-item-init : goal.loop-item-init
loop-item-init c = above_none c.args.placed.now c.new-above.result c.new-above.ensures.empty

pub mark-requires : goal.mark-requires
mark-requires c = above_holds c.args.placed.now c.loop-item.item-index c.loop-item.above c.loop-item.invariant

pub loop-item-preserved : goal.loop-item-preserved
loop-item-preserved c =
    let here = at_index c.args.placed.now c.loop-item.item-index c.item-item.result c.loop-item-test.true c.item-item.is in
    elim c.if-has_path_key.branch [
      | then-has_path_key+in_ok-mark w ↦
          subst (AboveTo c.args.placed.now _) (sym w.above-is)
          (above_more c.args.placed.now c.loop-item.item-index c.item-item.result c.loop-item.above w.mark.new.above here (sym c.has_path_key.ensures ∙ w.if-has_path_key.true) c.loop-item.invariant
          (marks_at c.loop-item.above w.mark.new.above _ _ (w.as_bytes.ensures.value ∙ w.value.ensures.value ∙ ap (value_of (codes "path")) w.action.ensures) w.in_ok-mark.ensures))
      | else-has_path_key w ↦
          subst (AboveTo c.args.placed.now _) (sym w.above-is)
          (above_same c.args.placed.now c.loop-item.item-index c.item-item.result c.loop-item.above here (sym c.has_path_key.ensures ∙ w.if-has_path_key.false) c.loop-item.invariant)
    ]

pub returns : goal.returns
returns c = above_done c.args.placed.now c.loop-item.item-index c.loop-item.above c.loop-item-test.false c.loop-item.invariant
