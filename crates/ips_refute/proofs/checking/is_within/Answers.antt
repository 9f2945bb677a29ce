use Rattle.std.proofs.Common.{◌∷◌}
use Rattle.ips_refute.proofs.Checks.{within_more}
use Rattle.ips_refute.proofs.checking.is_within.Goals as goal

pub loop-q-preserved : goal.loop-q-preserved
loop-q-preserved c = (c.in-Some.ensures.some.0, within_more c.args.few.now (c.args.more ∷ c.args.set.now) c.loop-q.q-index (record { stem = 0; candidate = 0 }) c.loop-q-test.true c.in-Some.ensures.some.1 c.loop-q.invariant.1)
