use Rattle.ips_laws.proofs.plan_laws.Images.{meant_one}
use Rattle.ips_laws.proofs.plan_laws.requests.image_after_is_one.Goals as goal

pub returns : goal.returns
returns c = λ moment old other new next repository t a b was is x y. meant_one c.answers_are_one.ensures moment old other new next repository t a b was is x y
