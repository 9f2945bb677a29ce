use Rattle.ips_laws.proofs.plan_laws.Unmeant.{fault_one}
use Rattle.ips_laws.proofs.plan_laws.meanings.unmeant_is_one.Goals as goal

pub returns : goal.returns
returns c = λ a b why other same h k. fault_one a b same why other h k
