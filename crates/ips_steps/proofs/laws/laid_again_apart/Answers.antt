use Rattle.ips_steps.proofs.Again.{again_but}
use Rattle.ips_steps.proofs.laws.laid_again_apart.Goals as goal

pub returns : goal.returns
returns c = λ apart stage steps t u formed so cl po h. again_but apart stage steps t u (record { self = formed.self }) so cl po h
