use Rattle.std.proofs.Common.{refl}
use Rattle.ips_after.specs.Lists.{listed}
use Rattle.ips_due.proofs.Fitting.{nothing_gone}
use Rattle.ips_due.proofs.laws.standing_is_not_spoken_of.Goals as goal

pub returns : goal.returns
returns c = record {
  stands = λ bytes holds due t q content account due_here there stays. rw (account, due_here, there, stays) refl;
  absent = λ bytes holds due t q account due_here renewed folder nothing. rw (account, due_here, renewed, folder) (nothing_gone (listed due.gone q) (t.look q) nothing);
}
