use Rattle.ips_problem.proofs.Answering.{last_told}
use Rattle.ips_problem.proofs.puzzle.ProblemPuzzle.last.Goals as goal

pub returns : goal.returns
returns c = last_told c.args.self.now c.args.test c.index.result.now c.requires c.index.ensures
