use Rattle.ips_laws.proofs.plan_laws.Making.{creations_like}
use Rattle.ips_laws.proofs.plan_laws.creations.creation_steps_are_one.Goals as goal

pub returns : goal.returns
returns c = λ moment new next t d e same h k. creations_like new next same t moment d e h k
