use Rattle.ips_accounts.proofs.NewGroups.{new_groups}
use Rattle.ips_accounts.proofs.laws.new_groups_stand.Goals as goal

pub returns : goal.returns
returns c = new_groups
