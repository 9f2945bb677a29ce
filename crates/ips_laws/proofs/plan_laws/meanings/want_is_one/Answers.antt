use Rattle.ips_laws.proofs.plan_laws.States.{meaning_same}
use Rattle.ips_laws.proofs.plan_laws.Wants.{want_like}
use Rattle.ips_laws.proofs.plan_laws.meanings.want_is_one.Goals as goal

pub returns : goal.returns
returns c = λ a b x y same h k. want_like x y (meaning_same a b same x y h k)
