use Rattle.ips_movable.proofs.Moving.{fixed_seen}
use Rattle.ips_movable.proofs.laws.things_are_fixed_by_what_stands.Goals as goal

pub returns : goal.returns
returns c = fixed_seen
