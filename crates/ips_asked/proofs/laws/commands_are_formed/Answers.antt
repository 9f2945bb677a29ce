use Rattle.ips_asked.proofs.Given.{command_formed, string_command_formed, formed_versions}
use Rattle.ips_asked.proofs.laws.commands_are_formed.Goals as goal

pub returns-clause-formed : goal.returns-clause-formed
returns-clause-formed c = command_formed

pub returns-clause-read : goal.returns-clause-read
returns-clause-read c = string_command_formed

pub returns-clause-versions : goal.returns-clause-versions
returns-clause-versions c = formed_versions
