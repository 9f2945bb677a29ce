use Rattle.std.proofs.Common.{◌<◌, true, false, ◌++◌, length, take_all, sym, ap, ◌∙◌, arith}
use Rattle.std.proofs.lemmas.List.{append-nil}
use Rattle.ips_emptied.specs.order.Chosen.{chosen}
use Rattle.ips_emptied.proofs.order.Places.{place_on}
use Rattle.ips_emptied.proofs.order.choosing.add.Goals.{then-marks-i+in_ok-push, else-marks-i}
use Rattle.ips_emptied.proofs.order.choosing.add.Goals as goal

pub loop-i-preserved : goal.loop-i-preserved
loop-i-preserved c =
    let marks = c.args.marks.now in
    let old = c.args.order.now.items in
    let now = c.loop-i.order.items in
    let i = c.loop-i.i in
    let lt : i < length marks = c.loop-i-test.true in
    elim c.if-marks-i.branch [
      | then-marks-i+in_ok-push w ↦ place_on old now c.if-marks-i.order.items marks i true lt (sym w.if-marks-i.true) c.loop-i.invariant (ap (λ v. v.items) w.order-is ∙ w.in_ok-push.ensures.items)
      | else-marks-i w ↦ place_on old now c.if-marks-i.order.items marks i false lt (sym w.if-marks-i.false) c.loop-i.invariant (ap (λ v. v.items) w.order-is ∙ sym (append-nil now))
    ]

pub returns : goal.returns
returns c = c.loop-i.invariant ∙ ap (λ l. c.args.order.now.items ++ chosen 0 l) (take_all c.loop-i.i c.args.marks.now (omega (arith, c.loop-i-test.false)))
