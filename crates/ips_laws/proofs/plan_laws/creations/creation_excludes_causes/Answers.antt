use Rattle.ips_laws.proofs.plan_laws.Making.{created_or_not}
use Rattle.ips_laws.proofs.plan_laws.creations.creation_excludes_causes.Goals as goal

pub returns : goal.returns
returns c = λ told moment new next t e why tell same h few k. created_or_not new next same t moment told tell e why h few k
