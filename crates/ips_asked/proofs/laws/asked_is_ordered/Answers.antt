use Rattle.ips_asked.proofs.Lawful.{asked_ordered}
use Rattle.ips_asked.proofs.laws.asked_is_ordered.Goals as goal

pub returns : goal.returns
returns c = asked_ordered
