use Rattle.ips_actuate.proofs.Gathered.{lacks_is}
use Rattle.ips_actuate.proofs.sets.lacks.Goals as goal

pub returns : goal.returns
returns c = lacks_is c.args.set.now c.args.text.now c.contains.result c.contains.ensures
