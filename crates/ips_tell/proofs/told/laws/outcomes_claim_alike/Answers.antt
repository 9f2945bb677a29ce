use Rattle.std.proofs.Common.{◌∙◌, ap}
use Rattle.ips_tell.specs.told.Told.{Manner, claimed}
use Rattle.ips_tell.proofs.told.Alike.{manner_told, claims_as}
use Rattle.ips_tell.proofs.told.laws.outcomes_claim_alike.Goals as goal

pub returns : goal.returns
returns c = λ x says payload. ap claimed (manner_told x says payload) ∙ claims_as x
