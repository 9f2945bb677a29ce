use Rattle.ips_depend.proofs.Matching.{at_least_same}
use Rattle.ips_depend.proofs.holding.reaches.Goals as goal

pub returns-in-Some : goal.returns-in-Some
returns-in-Some c = rw c.in-Some.is (at_least_same _ _ _ c.at_least.ensures)
