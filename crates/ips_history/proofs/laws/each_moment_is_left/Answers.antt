use Rattle.ips_history.proofs.Histories.{left_somewhere}
use Rattle.ips_history.proofs.laws.each_moment_is_left.Goals as goal

pub returns : goal.returns
returns g c = λ r effect is_done old new t w s was. left_somewhere g.F.Source.outside (g.R.Requests.means r) effect is_done r old new w s was t
