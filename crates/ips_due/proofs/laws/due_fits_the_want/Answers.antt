use Rattle.ips_due.proofs.Fitting.{over_fits}
use Rattle.ips_due.proofs.laws.due_fits_the_want.Goals as goal

pub returns : goal.returns
returns c = over_fits
