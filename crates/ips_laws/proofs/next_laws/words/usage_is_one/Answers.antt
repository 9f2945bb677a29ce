use Rattle.ips_laws.proofs.next_laws.OneCommand.{usage_once}
use Rattle.ips_laws.proofs.next_laws.words.usage_is_one.Goals as goal

pub returns : goal.returns
returns c = usage_once
