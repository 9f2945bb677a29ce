use Rattle.ips_history.proofs.Histories.{done_meant}
use Rattle.ips_history.proofs.laws.done_is_meant.Goals as goal

pub returns : goal.returns
returns g c = λ r effect is_done old new transition done. done_meant g.F.Source.outside g.met.F.Source.sane g.R.Requests.means r effect is_done old new transition done
