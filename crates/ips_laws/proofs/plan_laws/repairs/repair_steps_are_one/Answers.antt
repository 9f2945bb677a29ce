use Rattle.ips_laws.proofs.plan_laws.Repaired.{repairs_like}
use Rattle.ips_laws.proofs.plan_laws.repairs.repair_steps_are_one.Goals as goal

pub returns : goal.returns
returns c = λ moment a b history want other t d e same means also h k. repairs_like a b same want other means also history t moment d e h k
