use Rattle.ips_change.proofs.wanted.Found.{proper_at}
use Rattle.ips_change.proofs.wanted.laws.parts_are_proper.Goals as goal

pub returns : goal.returns
returns c = proper_at
