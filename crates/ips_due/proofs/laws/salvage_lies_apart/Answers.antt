use Rattle.ips_due.proofs.Lying.{own_of}
use Rattle.ips_due.proofs.laws.salvage_lies_apart.Goals as goal

pub returns : goal.returns
returns c = λ moment r t a good formed stands wanted none_old none_new leaves root is. own_of moment r t a good formed stands wanted none_old none_new leaves root is
