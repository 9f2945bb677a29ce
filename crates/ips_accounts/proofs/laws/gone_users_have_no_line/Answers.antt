use Rattle.ips_accounts.proofs.Lacking.{gone_users}
use Rattle.ips_accounts.proofs.laws.gone_users_have_no_line.Goals as goal

pub returns : goal.returns
returns c = gone_users
