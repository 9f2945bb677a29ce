use Rattle.ips_refute.proofs.Laws.{refuted}
use Rattle.ips_refute.proofs.checking.refutes.Goals as goal

pub returns : goal.returns
returns g c = refuted (g.P.Puzzle.meaning c.args.puzzle.now) (g.met.P.Puzzle.lawful c.args.puzzle.now) c.args.refutation.now.nogoods.items c.requires
