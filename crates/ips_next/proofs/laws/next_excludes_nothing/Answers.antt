use Rattle.ips_next.proofs.OneNext.{next_changes}
use Rattle.ips_next.proofs.laws.next_excludes_nothing.Goals as goal

pub returns : goal.returns
returns c = next_changes
