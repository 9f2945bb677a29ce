use Rattle.ips_due.proofs.RequestDue.{creation_is_due}
use Rattle.ips_due.proofs.laws.creations_hang_together.Goals as goal

pub returns : goal.returns
returns c = creation_is_due
