use Rattle.ips_due.proofs.RequestDue.{request_is_due}
use Rattle.ips_due.proofs.laws.requests_hang_together.Goals as goal

pub returns : goal.returns
returns c = λ accounts old new was is files named_old named. request_is_due accounts old new was is files named_old named
