use Rattle.ips_laws.proofs.recorded.OneFault.{search_fault_one, state_fault_one}
use Rattle.ips_laws.proofs.recorded.law.first_fault_is_one.Goals as goal

pub returns-clause-state : goal.returns-clause-state
returns-clause-state c = state_fault_one

pub returns-clause-search : goal.returns-clause-search
returns-clause-search c = search_fault_one
