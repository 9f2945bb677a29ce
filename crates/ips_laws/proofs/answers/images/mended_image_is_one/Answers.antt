use Rattle.ips_laws.proofs.answers.Behind.{repaired_once}
use Rattle.ips_laws.proofs.answers.images.mended_image_is_one.Goals as goal

pub returns : goal.returns
returns c = repaired_once c.repaired_image_is_one.ensures
