use Rattle.ips_laws.proofs.recorded.NoFault.{no_fault}
use Rattle.ips_laws.proofs.recorded.OneFault.{searched_good}
use Rattle.ips_laws.proofs.recorded.law.held_has_no_fault.Goals as goal

pub returns-clause-state : goal.returns-clause-state
returns-clause-state c = λ t r fault held bad. no_fault t r held fault bad

pub returns-clause-search : goal.returns-clause-search
returns-clause-search c = λ t index fault head are holds bad. searched_good t index head are holds fault bad
