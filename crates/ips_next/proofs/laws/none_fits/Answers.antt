use Rattle.ips_next.proofs.Best.{none_fitting}
use Rattle.ips_next.proofs.laws.none_fits.Goals as goal

pub returns : goal.returns
returns c = none_fitting
