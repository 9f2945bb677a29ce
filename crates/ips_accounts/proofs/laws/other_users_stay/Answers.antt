use Rattle.ips_accounts.proofs.Others.{users_stay}
use Rattle.ips_accounts.proofs.laws.other_users_stay.Goals as goal

pub returns : goal.returns
returns c = users_stay
