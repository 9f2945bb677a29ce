use Rattle.ips_laws.proofs.next_laws.OneCommand.{usage_or_command}
use Rattle.ips_laws.proofs.next_laws.words.usage_excludes_command.Goals as goal

pub returns : goal.returns
returns c = usage_or_command
