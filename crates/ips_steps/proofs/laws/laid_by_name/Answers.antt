use Rattle.ips_steps.proofs.ByName.{means_the_steps}
use Rattle.ips_steps.proofs.laws.laid_by_name.Goals as goal

pub returns : goal.returns
returns c = λ steps t formed lists po alone. means_the_steps steps t formed lists po alone
