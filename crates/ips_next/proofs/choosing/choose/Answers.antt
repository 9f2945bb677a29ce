use Rattle.ips_next.proofs.choosing.choose.Goals as goal

pub returns-in-Ok-Refuted-clause-refused : goal.returns-in-Ok-Refuted-clause-refused
returns-in-Ok-Refuted-clause-refused c = c.no_solution.ensures.refused c.args.limit
