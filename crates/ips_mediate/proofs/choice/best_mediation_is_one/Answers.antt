use Rattle.ips_mediate.proofs.Ranked.{best_is_one}
use Rattle.ips_mediate.proofs.choice.best_mediation_is_one.Goals as goal

pub returns : goal.returns
returns c = best_is_one
