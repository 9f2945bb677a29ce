use Rattle.ips_due.proofs.Fitting.{over_named}
use Rattle.ips_due.proofs.laws.due_can_be_named.Goals as goal

pub returns : goal.returns
returns c = over_named
