use Rattle.ips_asked.proofs.Given.{has_versions}
use Rattle.ips_asked.proofs.laws.commands_have_versions.Goals as goal

pub returns : goal.returns
returns c = has_versions
