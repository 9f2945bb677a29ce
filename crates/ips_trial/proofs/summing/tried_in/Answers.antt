use Rattle.ips_trial.specs.Generated.{Starved}
use Rattle.ips_trial.proofs.summing.tried_in.Goals as goal

pub returns-in-None : goal.returns-in-None
returns-in-None g c = Starved
