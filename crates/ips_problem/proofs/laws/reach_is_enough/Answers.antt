use Rattle.ips_problem.proofs.Restricting.{restricted_admissible}
use Rattle.ips_problem.proofs.Solving.{none_admissible, first_is_best}
use Rattle.ips_problem.proofs.laws.reach_is_enough.Goals as goal

pub returns-clause-restricted : goal.returns-clause-restricted
returns-clause-restricted c = restricted_admissible

pub returns-clause-none : goal.returns-clause-none
returns-clause-none c = none_admissible

pub returns-clause-best : goal.returns-clause-best
returns-clause-best c = first_is_best
