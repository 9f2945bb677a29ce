use Rattle.ips_laws.proofs.next_laws.OneCause.{cause_once}
use Rattle.ips_laws.proofs.next_laws.laws.causes_are_one.Goals as goal

pub returns : goal.returns
returns c = cause_once
