use Rattle.ips_next.proofs.OneDecided.{decided_or_none}
use Rattle.ips_next.proofs.laws.decided_excludes_none.Goals as goal

pub returns : goal.returns
returns c = decided_or_none
