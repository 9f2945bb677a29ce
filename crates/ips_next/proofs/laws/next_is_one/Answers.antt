use Rattle.ips_next.proofs.OneNext.{next_one}
use Rattle.ips_next.proofs.laws.next_is_one.Goals as goal

pub returns : goal.returns
returns c = next_one
