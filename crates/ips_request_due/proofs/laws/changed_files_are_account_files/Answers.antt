use Rattle.ips_request_due.proofs.Files.{changed_files}
use Rattle.ips_request_due.proofs.laws.changed_files_are_account_files.Goals as goal

pub returns : goal.returns
returns c = changed_files
