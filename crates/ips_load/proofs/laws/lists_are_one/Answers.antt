use Rattle.ips_load.proofs.OneText.{stems_one, names_one, mediators_one}
use Rattle.ips_load.proofs.laws.lists_are_one.Goals as goal

pub returns-clause-stems : goal.returns-clause-stems
returns-clause-stems c = stems_one

pub returns-clause-names : goal.returns-clause-names
returns-clause-names c = names_one

pub returns-clause-mediators : goal.returns-clause-mediators
returns-clause-mediators c = mediators_one
