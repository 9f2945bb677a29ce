use Rattle.ips_refute.proofs.Checks.{within_more}
use Rattle.ips_search.proofs.cores.are_chosen.Goals as goal

pub loop-q-preserved : goal.loop-q-preserved
loop-q-preserved c = within_more c.args.few.now c.args.chosen.now c.loop-q.q-index (record { stem = 0; candidate = 0 }) c.loop-q-test.true (c.is_chosen.ensures c.if-not-is_chosen.false) c.loop-q.invariant
