use Rattle.ips_apart.proofs.Beginnings.{kinds_apart}
use Rattle.ips_apart.proofs.law.reports_tell_their_kind.Goals as goal

pub returns : goal.returns
returns c = λ o p left right same. kinds_apart o p left right same
