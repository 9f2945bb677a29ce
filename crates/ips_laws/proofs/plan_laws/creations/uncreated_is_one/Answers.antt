use Rattle.ips_laws.proofs.plan_laws.Making.{uncreated_one}
use Rattle.ips_laws.proofs.plan_laws.creations.uncreated_is_one.Goals as goal

pub returns : goal.returns
returns c = λ told moment new next t why cause tell same h k hw hc. uncreated_one new next same t moment told tell why cause h k hw hc
