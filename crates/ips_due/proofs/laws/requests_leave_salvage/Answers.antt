use Rattle.ips_due.proofs.Leaving.{leaves}
use Rattle.ips_due.proofs.laws.requests_leave_salvage.Goals as goal

pub returns : goal.returns
returns c = λ bytes holds accounts old new was is t o files named_old named over. leaves bytes holds accounts old new was is t o files named_old named over
