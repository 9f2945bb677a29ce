use Rattle.std.proofs.Common.{take, ◌++◌}
use Rattle.ips_search.proofs.Shrinking.{without_kept, offered_as, one_as, breaks_as}
use Rattle.ips_search.proofs.cores.breaks.Goals as goal

pub broken-requires-clause-offered : goal.broken-requires-clause-offered
broken-requires-clause-offered g c =
    let front = take c.args.front c.args.whole.now in
    offered_as (g.P.Puzzle.meaning c.args.puzzle.now) c.args.more (front ++ c.args.kept.now) front (without_kept c.is_empty.result c.args.kept.now front c.is_empty.ensures c.if-is_empty.true) c.requires.offered

pub broken-requires-clause-one_per_stem : goal.broken-requires-clause-one_per_stem
broken-requires-clause-one_per_stem g c =
    let front = take c.args.front c.args.whole.now in
    one_as c.args.more (front ++ c.args.kept.now) front (without_kept c.is_empty.result c.args.kept.now front c.is_empty.ensures c.if-is_empty.true) c.requires.one_per_stem

pub returns-then-is_empty : goal.returns-then-is_empty
returns-then-is_empty g c =
    let front = take c.args.front c.args.whole.now in
    breaks_as (g.P.Puzzle.meaning c.args.puzzle.now) c.args.test c.args.more (front ++ c.args.kept.now) front c.broken.result (without_kept c.is_empty.result c.args.kept.now front c.is_empty.ensures c.if-is_empty.true) c.broken.ensures
