use Rattle.ips_depend.proofs.Absence.{holds_without}
use Rattle.ips_depend.proofs.laws.only_wanted_drawn_in.Goals as goal

pub returns : goal.returns
returns c = holds_without
