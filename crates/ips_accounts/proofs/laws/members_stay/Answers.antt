use Rattle.ips_accounts.proofs.MembersStay.{members_stay}
use Rattle.ips_accounts.proofs.laws.members_stay.Goals as goal

pub returns : goal.returns
returns c = members_stay
