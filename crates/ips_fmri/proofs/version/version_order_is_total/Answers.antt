use Rattle.ips_fmri.proofs.Orders.{at_most_itself, both_at_most, at_most_trans, some_at_most, compared}
use Rattle.ips_fmri.proofs.version.version_order_is_total.Goals as goal

pub returns-clause-reflexive : goal.returns-clause-reflexive
returns-clause-reflexive c = at_most_itself

pub returns-clause-antisymmetric : goal.returns-clause-antisymmetric
returns-clause-antisymmetric c = both_at_most

pub returns-clause-transitive : goal.returns-clause-transitive
returns-clause-transitive c = at_most_trans

pub returns-clause-total : goal.returns-clause-total
returns-clause-total c = some_at_most

pub returns-clause-compared : goal.returns-clause-compared
returns-clause-compared c = compared
