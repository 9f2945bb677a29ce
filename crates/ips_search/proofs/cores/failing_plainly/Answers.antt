use Rattle.std.proofs.Common.{arith}
use Rattle.ips_search.proofs.Walks.{offered_more, one_more_pair, none_fails}
use Rattle.ips_search.proofs.cores.failing_plainly.Goals as goal

pub broken-requires-clause-offered : goal.broken-requires-clause-offered
broken-requires-clause-offered g c = offered_more (g.P.Puzzle.meaning c.args.puzzle.now) c.args.choice.now c.args.more c.args.chosen.now c.requires.begun c.requires.paired c.requires.room c.requires.offered

pub broken-requires-clause-one_per_stem : goal.broken-requires-clause-one_per_stem
broken-requires-clause-one_per_stem g c = one_more_pair c.args.choice.now c.args.more c.args.chosen.now c.requires.paired c.requires.stem

pub returns : goal.returns
returns g c = none_fails (g.P.Puzzle.meaning c.args.puzzle.now) (g.met.P.Puzzle.lawful c.args.puzzle.now) c.args.choice.now c.args.more c.args.chosen.now c.loop-test.test c.requires.begun c.requires.paired c.requires.stem (omega arith) c.loop-test.invariant
