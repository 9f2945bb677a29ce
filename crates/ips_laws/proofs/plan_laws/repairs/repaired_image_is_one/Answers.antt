use Rattle.ips_laws.proofs.plan_laws.Repaired.{repaired_image_one}
use Rattle.ips_laws.proofs.plan_laws.repairs.repaired_image_is_one.Goals as goal

pub returns : goal.returns
returns c = repaired_image_one
