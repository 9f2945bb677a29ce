use Rattle.ips_account_files.proofs.Once.{one_answer}
use Rattle.ips_account_files.proofs.laws.answers_are_one.Goals as goal

pub returns : goal.returns
returns c = one_answer
