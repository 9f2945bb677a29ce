use Rattle.ips_operations.proofs.changing.Telling.{change_tells}
use Rattle.ips_operations.proofs.creating.Telling.{creation_tells}
use Rattle.ips_trial.specs.Generated.{Starved}
use Rattle.ips_top.proofs.trying.tried_over.Goals as goal

pub returns-in_default : goal.returns-in_default
returns-in_default g c = Starved

pub tried-requires-clause-makes : goal.tried-requires-clause-makes
tried-requires-clause-makes g c = λ tells repository t d is. creation_tells _ t d is

pub tried-requires-clause-installs : goal.tried-requires-clause-installs
tried-requires-clause-installs g c = λ tells repository t d is. change_tells _ d is
