use Rattle.ips_next.proofs.Best.{decided_best}
use Rattle.ips_next.proofs.laws.decided_is_best.Goals as goal

pub returns : goal.returns
returns c = decided_best
