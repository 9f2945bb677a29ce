use Rattle.ips_next.proofs.OneDecided.{decided_one}
use Rattle.ips_next.proofs.laws.decided_is_one.Goals as goal

pub returns : goal.returns
returns c = decided_one
