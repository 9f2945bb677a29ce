use Rattle.ips_depend.proofs.Matching.{at_least_tells, incorporated_tells}
use Rattle.ips_depend.proofs.laws.versions_are_matched.Goals as goal

pub returns-clause-at_least : goal.returns-clause-at_least
returns-clause-at_least c = at_least_tells

pub returns-clause-incorporates : goal.returns-clause-incorporates
returns-clause-incorporates c = incorporated_tells
