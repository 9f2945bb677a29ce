use Rattle.ips_due.proofs.RequestPaths.{creation_is_proper}
use Rattle.ips_due.proofs.laws.creations_have_proper_due.Goals as goal

pub returns : goal.returns
returns c = λ new lawful. creation_is_proper new lawful
