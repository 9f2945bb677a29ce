use Rattle.ips_operations.proofs.changing.Payloads.{plan_told}
use Rattle.ips_operations.proofs.changing.laws.plan_faults_are_told.Goals as goal

pub returns : goal.returns
returns c = plan_told
