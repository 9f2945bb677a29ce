use Rattle.ips_request_due.proofs.repairs.Due.{hangs, is_proper, leaves}
use Rattle.ips_request_due.proofs.repairs.laws.repairs_hang_together.Goals as goal

pub returns : goal.returns
returns c = record { due = hangs; proper = is_proper; salvage = λ bytes holds history t o of. leaves history bytes holds t o of }
