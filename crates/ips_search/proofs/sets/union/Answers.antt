use Rattle.ips_search.proofs.Unions.{merge_none, merge_least, merge_all, least_shorter}
use Rattle.ips_search.proofs.sets.union.Goals as goal

pub loop-pair-init : goal.loop-pair-init
loop-pair-init c = λ whole up w1 w2. merge_none whole c.args.first.now c.args.second.now c.in_ok-set.set.items c.in_ok-set.ensures.items c.requires.first c.requires.second w1 w2

pub loop-pair-preserved : goal.loop-pair-preserved
loop-pair-preserved c = λ whole up w1 w2.
    rw c.in_ok-push.ensures.items (merge_least whole c.args.first.now c.args.second.now c.loop-pair.left.now c.loop-pair.right.now c.loop-pair.set.items c.in-Some.pair c.in-Some.more.now c.in-Some.rest.now up (c.loop-pair.invariant whole up w1 w2) c.in-Some.ensures.some)

pub loop-pair-smaller : goal.loop-pair-smaller
loop-pair-smaller c = least_shorter c.loop-pair.left.now c.loop-pair.right.now c.in-Some.pair c.in-Some.more.now c.in-Some.rest.now c.in-Some.ensures.some

pub returns : goal.returns
returns c = λ whole up w1 w2. merge_all whole c.args.first.now c.args.second.now c.loop-pair.left.now c.loop-pair.right.now c.loop-pair.set.items c.in_default.ensures.none.0 c.in_default.ensures.none.1 (c.loop-pair.invariant whole up w1 w2)
