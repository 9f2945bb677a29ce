use Rattle.ips_laws.proofs.answers.Behind.{made_once}
use Rattle.ips_laws.proofs.answers.images.made_image_is_one.Goals as goal

pub returns : goal.returns
returns c = made_once
