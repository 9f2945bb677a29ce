use Rattle.ips_digest.proofs.Names.{spelled_once}
use Rattle.ips_digest.proofs.name.one_spelling.Goals as goal

pub returns : goal.returns
returns c = spelled_once
