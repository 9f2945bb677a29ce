use Rattle.std.proofs.Common.{◌<◌, true, false, length, map, sym, ap, ◌∙◌, arith}
use Rattle.std.proofs.lemmas.List.{append-nil}
use Rattle.ips_change.specs.wanted.Wanted.{want_of}
use Rattle.ips_emptied.proofs.order.Places.{place_on}
use Rattle.ips_mend.specs.mended.Ordering.{is_of_at}
use Rattle.ips_mend.proofs.mended.Ordered.{long_as, marked_here}
use Rattle.ips_mend.proofs.mended.ordering.add.Goals.{then-is_in+in_ok-push, else-is_in}
use Rattle.ips_mend.proofs.mended.ordering.add.Goals as goal

pub loop-i-preserved : goal.loop-i-preserved
loop-i-preserved c =
    let want = c.args.want.now in
    let group = c.args.group in
    let marks = map (is_of_at group (want_of want)) (want_of want).keys in
    let old = c.args.order.now.items in
    let now = c.loop-i.order.items in
    let i = c.loop-i.i in
    let p = c.in-Some.field-0-0.now.bytes in
    let e = c.in-Some.entry.now in
    let there = c.in-Some.ensures.some in
    let sorted = c.len-i-end.ensures.in_order in
    let lt : i < length marks = omega (arith, c.loop-i-test.true, c.len-i-end.ensures.count, long_as group want) in
    elim c.if-is_in.branch [
      | then-is_in+in_ok-push w ↦
          place_on old now c.if-is_in.order.items marks i true lt (marked_here group want i p e true there sorted (sym w.if-is_in.true ∙ c.is_in.ensures)) c.loop-i.invariant (ap (λ v. v.items) w.order-is ∙ w.in_ok-push.ensures.items)
      | else-is_in w ↦
          place_on old now c.if-is_in.order.items marks i false lt (marked_here group want i p e false there sorted (sym w.if-is_in.false ∙ c.is_in.ensures)) c.loop-i.invariant (ap (λ v. v.items) w.order-is ∙ sym (append-nil now))
    ]
