use Rattle.std.proofs.Common.{arith}
use Rattle.ips_search.proofs.Shrinking.{breaks_offered, breaks_one}
use Rattle.ips_search.proofs.cores.shortest.Goals as goal

pub breaks-requires-clause-offered : goal.breaks-requires-clause-offered
breaks-requires-clause-offered g c =
    breaks_offered (g.P.Puzzle.meaning c.args.puzzle.now) c.args.whole.now c.args.more c.args.test c.loop-low.high c.loop-low.middle c.args.kept.now (omega (arith, c.loop-low.invariant.to c.loop-low-test.true)) c.requires.offered c.loop-low.invariant.kept

pub breaks-requires-clause-one_per_stem : goal.breaks-requires-clause-one_per_stem
breaks-requires-clause-one_per_stem g c =
    breaks_one (g.P.Puzzle.meaning c.args.puzzle.now) c.args.whole.now c.args.more c.args.test c.loop-low.high c.loop-low.middle c.args.kept.now (omega (arith, c.loop-low.invariant.to c.loop-low-test.true)) c.requires.free c.requires.ascends c.loop-low.invariant.kept
