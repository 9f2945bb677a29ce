use Rattle.ips_account_files.proofs.Due.{fits}
use Rattle.ips_account_files.proofs.laws.due_files_fit.Goals as goal

pub returns : goal.returns
returns c = fits
