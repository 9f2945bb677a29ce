use Rattle.ips_laws.proofs.plan_laws.Repaired.{repaired_or_not}
use Rattle.ips_laws.proofs.plan_laws.repairs.repair_excludes_causes.Goals as goal

pub returns : goal.returns
returns c = λ told moment a b history want other t e why tell same means also h few k. repaired_or_not a b same want other means also history t told tell moment e why h few k
