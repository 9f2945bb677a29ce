use Rattle.ips_request_due.proofs.repairs.Lawful.{lawful, nameable, none_old, none_own, proper}
use Rattle.ips_request_due.proofs.repairs.laws.repairs_are_lawful.Goals as goal

pub returns : goal.returns
returns c = record {
  repair = λ settings mediators packages entries is bytes holds history t o of. lawful settings mediators packages entries is bytes holds t o history of;
  names = λ settings mediators packages entries is bytes holds history t o of stands. nameable settings mediators packages entries is bytes holds t o history of stands;
  proper = λ settings mediators packages entries is bytes holds history t o of. proper settings mediators packages entries is bytes holds t o history of;
  own_new = λ settings mediators packages entries is bytes holds t o q own. none_own settings mediators packages entries is bytes holds t o q own;
  own_old = λ settings mediators packages entries is bytes holds t o q own. none_old settings mediators packages entries is bytes holds t o q own;
}
