use Rattle.ips_trial.specs.Generated.{Starved}
use Rattle.ips_top.proofs.trying.generated_by.Goals as goal

pub returns-in_default : goal.returns-in_default
returns-in_default g c = Starved
