use Rattle.ips_kinds.proofs.Turns.{finished_last, goes_on}
use Rattle.ips_kinds.proofs.kind.ends_once.Goals as goal

pub returns : goal.returns
returns c = record { last = finished_last; on = goes_on }
