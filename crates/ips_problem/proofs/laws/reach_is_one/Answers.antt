use Rattle.ips_problem.proofs.OneReach.{one_reach}
use Rattle.ips_problem.proofs.laws.reach_is_one.Goals as goal

pub returns : goal.returns
returns c = one_reach
