use Rattle.ips_rules.proofs.Left.{no_rule}
use Rattle.ips_rules.proofs.reading.read_rule.Goals as goal

pub returns-in-Some-clause-none : goal.returns-in-Some-clause-none
returns-in-Some-clause-none c = no_rule c.read_inside.result c.args.line.now c.in-Some.inside.now c.in-Some.ensures c.read_inside.ensures.none
