use Rattle.ips_laws.proofs.plan_laws.Repaired.{unrepaired_one}
use Rattle.ips_laws.proofs.plan_laws.repairs.unrepaired_is_one.Goals as goal

pub returns : goal.returns
returns c = λ told moment a b history want other t why cause tell same means also h k hw hc. unrepaired_one a b same want other means also history t told tell moment why cause h k hw hc
