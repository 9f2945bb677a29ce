use Rattle.ips_accounts.proofs.GroupNames.{gone_groups}
use Rattle.ips_accounts.proofs.laws.gone_groups_have_no_line.Goals as goal

pub returns : goal.returns
returns c = gone_groups
