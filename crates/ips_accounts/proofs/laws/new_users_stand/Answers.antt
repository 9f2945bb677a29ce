use Rattle.ips_accounts.proofs.NewUsers.{new_stand}
use Rattle.ips_accounts.proofs.laws.new_users_stand.Goals as goal

pub returns : goal.returns
returns c = new_stand
