use Rattle.ips_refute.proofs.Spelled.{one_text, printed}
use Rattle.ips_refute.proofs.nogoods.refutations_read_back.Goals as goal

pub returns-clause-printed : goal.returns-clause-printed
returns-clause-printed c = printed

pub returns-clause-one : goal.returns-clause-one
returns-clause-one c = one_text
