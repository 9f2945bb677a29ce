use Rattle.ips_accounts.proofs.Members.{gone_members}
use Rattle.ips_accounts.proofs.laws.gone_users_are_no_members.Goals as goal

pub returns : goal.returns
returns c = gone_members
