use Rattle.ips_steps.proofs.Linked.{after_again}
use Rattle.ips_steps.proofs.laws.laid_again.Goals as goal

pub returns : goal.returns
returns c = λ steps t u formed may so po h. after_again steps t u (record { self = formed.self }) may so po h
