use Rattle.ips_asked.proofs.Lawful.{asked_lawful}
use Rattle.ips_asked.proofs.laws.asked_is_lawful.Goals as goal

pub returns : goal.returns
returns c = record { asked = asked_lawful }
