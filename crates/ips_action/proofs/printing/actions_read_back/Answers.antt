use Rattle.ips_action.proofs.Told.{one_text, line_means, one_meaning}
use Rattle.ips_action.proofs.printing.actions_read_back.Goals as goal

pub returns-clause-one : goal.returns-clause-one
returns-clause-one c = one_text

pub returns-clause-back : goal.returns-clause-back
returns-clause-back c = line_means

pub returns-clause-alone : goal.returns-clause-alone
returns-clause-alone c = one_meaning
