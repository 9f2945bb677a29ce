use Rattle.ips_refute.proofs.Laws.{refuted}
use Rattle.ips_problem.specs.Held.{posed_of, problem_lawful}
use Rattle.ips_problem.specs.Posed.{meaning_of}
use Rattle.ips_next.proofs.choosing.no_solution.Goals as goal

pub returns-in-Ok-clause-refused : goal.returns-in-Ok-clause-refused
returns-in-Ok-clause-refused c = λ limit. record {
  none = refuted (meaning_of (posed_of c.args.problem.now)) (problem_lawful c.args.problem.now) c.args.refutation.nogoods.items c.requires.0;
  tried = c.in-Ok.ensures;
  refuted = c.requires;
}
