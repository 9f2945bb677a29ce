use Rattle.ips_asked.proofs.Lawful.{founded_lawful}
use Rattle.ips_asked.proofs.laws.founded_is_lawful.Goals as goal

pub returns : goal.returns
returns c = founded_lawful
