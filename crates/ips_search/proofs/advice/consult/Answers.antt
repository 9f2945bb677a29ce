use Rattle.ips_search.proofs.Advised.{learned_none, learned_more}
use Rattle.ips_search.proofs.advice.consult.Goals as goal

pub loop-line-init : goal.loop-line-init
loop-line-init g c = learned_none (g.P.Puzzle.meaning c.args.puzzle.now) c.args.state.now c.requires.searching

pub loop-line-preserved : goal.loop-line-preserved
loop-line-preserved g c = learned_more (g.P.Puzzle.meaning c.args.puzzle.now) c.args.state.now c.loop-line.state c.learn.new.state c.loop-line.invariant c.in_ok-learn.ensures
