use Rattle.ips_refute.proofs.Checks.{both_iff}
use Rattle.ips_refute.proofs.checking.check.Goals as goal

pub returns-then-are_nogoods : goal.returns-then-are_nogoods
returns-then-are_nogoods g c = both_iff c.are_nogoods.result c.ends_empty.result (g.P.Puzzle.meaning c.args.puzzle.now) c.args.refutation.now.nogoods.items c.as_slice-nogoods.result.now c.as_slice-nogoods.ensures.value c.if-are_nogoods.true c.are_nogoods.ensures c.ends_empty.ensures
