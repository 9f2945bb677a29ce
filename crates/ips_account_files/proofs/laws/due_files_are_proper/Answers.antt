use Rattle.ips_account_files.proofs.Due.{apart, modes, paths}
use Rattle.ips_account_files.proofs.laws.due_files_are_proper.Goals as goal

pub returns : goal.returns
returns c = record { paths = paths; apart = apart; modes = modes }
