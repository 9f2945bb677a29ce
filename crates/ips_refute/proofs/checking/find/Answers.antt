use Rattle.ips_refute.proofs.Checks.{found_nowhere}
use Rattle.ips_refute.proofs.checking.find.Goals as goal

pub returns-in-None-clause-none : goal.returns-in-None-clause-none
returns-in-None-clause-none c = found_nowhere c.position-in-None.result c.args.from c.args.set.now c.args.pair c.in-None.ensures.none c.position-in-None.ensures.none
