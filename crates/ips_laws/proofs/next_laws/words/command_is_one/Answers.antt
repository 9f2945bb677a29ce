use Rattle.ips_laws.proofs.next_laws.OneCommand.{command_once}
use Rattle.ips_laws.proofs.next_laws.words.command_is_one.Goals as goal

pub returns : goal.returns
returns c = command_once
