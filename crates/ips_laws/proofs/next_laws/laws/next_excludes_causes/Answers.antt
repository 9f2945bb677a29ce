use Rattle.ips_laws.proofs.next_laws.OneCause.{next_or_cause}
use Rattle.ips_laws.proofs.next_laws.laws.next_excludes_causes.Goals as goal

pub returns : goal.returns
returns c = next_or_cause
