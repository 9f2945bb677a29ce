use Rattle.ips_image_steps.proofs.Unsaved.{saves_nothing}
use Rattle.ips_image_steps.proofs.laws.unchanged_wants_save_nothing.Goals as goal

pub returns : goal.returns
returns c = λ r t formed stands same. saves_nothing r t formed stands same
