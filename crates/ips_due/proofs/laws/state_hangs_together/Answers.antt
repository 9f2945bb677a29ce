use Rattle.ips_due.proofs.StateDue.{state_is_due}
use Rattle.ips_due.proofs.laws.state_hangs_together.Goals as goal

pub returns : goal.returns
returns c = state_is_due
