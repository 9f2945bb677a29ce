use Rattle.ips_next.proofs.OfKind.{of_kind}
use Rattle.ips_next.proofs.laws.faults_are_of_their_kinds.Goals as goal

pub returns : goal.returns
returns c = of_kind
