use Rattle.ips_change.proofs.wanted.Digests.{digest_is, is_digest}
use Rattle.ips_change.proofs.wanted.laws.names_are_digests.Goals as goal

pub returns : goal.returns
returns c = λ name bytes h d. (is_digest name bytes h d, digest_is name bytes h d)
