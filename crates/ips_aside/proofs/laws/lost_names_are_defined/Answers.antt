use Rattle.ips_aside.proofs.Defined.{names_defined}
use Rattle.ips_aside.proofs.laws.lost_names_are_defined.Goals as goal

pub returns : goal.returns
returns c = λ r t a things sides names are bare under p side at lost. names_defined r t a things sides names are bare under p side at lost
