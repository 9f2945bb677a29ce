use Rattle.ips_laws.proofs.OneMeaning.{meaning_like}
use Rattle.ips_laws.proofs.law.meaning_is_one.Goals as goal

pub returns : goal.returns
returns c = meaning_like
