use Rattle.ips_asked.proofs.One.{asked_one}
use Rattle.ips_asked.proofs.laws.asked_is_one.Goals as goal

pub returns : goal.returns
returns c = asked_one
