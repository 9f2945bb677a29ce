use Rattle.ips_problem.proofs.OneSelection.{one_selection}
use Rattle.ips_problem.proofs.laws.best_selection_is_one.Goals as goal

pub returns : goal.returns
returns c = one_selection
