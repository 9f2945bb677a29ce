use Rattle.ips_depend.proofs.Absence.{holds_alike}
use Rattle.ips_depend.proofs.laws.judged_by_mentions.Goals as goal

pub returns : goal.returns
returns c = holds_alike
