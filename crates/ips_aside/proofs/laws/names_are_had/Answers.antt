use Rattle.ips_aside.proofs.Had.{all_had}
use Rattle.ips_aside.proofs.laws.names_are_had.Goals as goal

pub returns : goal.returns
returns c = λ r t a paths things sides names sorted are found lost. all_had r t a paths things sides names sorted are found lost
