use Rattle.ips_steps.proofs.Linked.{after_formed}
use Rattle.ips_steps.proofs.Within.{laid_formed, all_formed}
use Rattle.ips_steps.proofs.laws.stays_formed.Goals as goal

pub returns : goal.returns
returns c = record { step = laid_formed; list = all_formed; linked = after_formed }
