use Rattle.ips_entries.proofs.HeldOnce.{held_once}
use Rattle.ips_entries.proofs.laws.one_state_is_held.Goals as goal

pub returns : goal.returns
returns c = held_once
