use Rattle.ips_laws.proofs.answers.Behind.{led_once}
use Rattle.ips_laws.proofs.answers.images.image_led_to_is_one.Goals as goal

pub returns : goal.returns
returns c = led_once c.image_after_is_one.ensures c.due_files_are_proper.ensures.paths
