use Rattle.std.proofs.Common.{refl, arith}
use Rattle.std.proofs.lemmas.Option.{slice_get_read}
use Rattle.ips_search.proofs.Keeping.{kept_not, kept_step}
use Rattle.ips_search.proofs.pruning.renumber.Goals as goal

pub loop-nogood-preserved-then-not-is_flagged : goal.loop-nogood-preserved-then-not-is_flagged
loop-nogood-preserved-then-not-is_flagged c = rw c.in_ok-push.ensures.items (kept_not c.args.nogoods.now c.loop-nogood.places.items c.loop-nogood.kept.items c.loop-nogood.nogood-index c.loop-nogood.invariant)

pub loop-nogood-preserved : goal.loop-nogood-preserved
loop-nogood-preserved c =
    let ns = c.args.nogoods.now in
    let i = c.loop-nogood.nogood-index in
    let item = c.nogood-item.result in
    let kept = c.push-in-loop-nogood.new.self in
    kept_step ns c.loop-nogood.places.items c.deref.result.now c.push-in-loop-nogood-2.new.self.items c.loop-nogood.kept.items kept.items i c.len-count.result item c.in-Some.renamed c.in_ok-renamed.field-0
    c.loop-nogood.invariant (slice_get_read ns _ i item refl c.loop-nogood-test.true c.nogood-item.is) c.deref.ensures.value c.in-Some.is c.in_ok-renamed.ensures c.in_ok-push-2.ensures.items (omega (arith, c.len-count.ensures, kept.ok.0)) c.in_ok-push-3.ensures.items
