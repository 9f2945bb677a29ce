use Rattle.ips_depend.proofs.Lines.{lines_once}
use Rattle.ips_depend.proofs.laws.asks_for_one_list.Goals as goal

pub returns : goal.returns
returns c = lines_once
