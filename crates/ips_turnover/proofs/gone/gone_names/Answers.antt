use Rattle.std.proofs.Common.{not, ◌&&◌}
use Rattle.ips_turnover.proofs.gone.gone_names.Goals as goal

pub returns : goal.returns
returns c = λ name. (λ i. c.in_ok-old.ensures name i && not (c.in_ok-new.ensures name i))
