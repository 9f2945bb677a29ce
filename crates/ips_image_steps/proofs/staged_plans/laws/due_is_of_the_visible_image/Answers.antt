use Rattle.ips_image_steps.proofs.staged_plans.Seen.{said_seen}
use Rattle.ips_image_steps.proofs.staged_plans.laws.due_is_of_the_visible_image.Goals as goal

pub returns : goal.returns
returns c = λ bytes holds due t q is. said_seen bytes holds due t is q
