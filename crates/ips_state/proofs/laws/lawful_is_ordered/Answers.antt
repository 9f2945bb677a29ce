use Rattle.ips_state.proofs.Frozen.{lawful_ordered}
use Rattle.ips_state.proofs.laws.lawful_is_ordered.Goals as goal

pub returns : goal.returns
returns c = lawful_ordered
