use Rattle.ips_laws.proofs.plan_laws.Unmeant.{fails_or_means}
use Rattle.ips_laws.proofs.plan_laws.meanings.want_or_fault.Goals as goal

pub returns : goal.returns
returns c = λ a b why y same h k. fails_or_means a b same why y h k
