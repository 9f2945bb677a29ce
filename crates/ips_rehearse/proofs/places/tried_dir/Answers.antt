use Rattle.ips_rehearse.proofs.Paths.{dir_is}
use Rattle.ips_rehearse.proofs.places.tried_dir.Goals as goal

pub returns : goal.returns
returns c = dir_is
