use Rattle.ips_rules.proofs.One.{one_file, one_first_bad, rules_or_bad}
use Rattle.ips_rules.proofs.laws.rules_are_one.Goals as goal

pub returns-clause-rules : goal.returns-clause-rules
returns-clause-rules c = one_file

pub returns-clause-bad : goal.returns-clause-bad
returns-clause-bad c = one_first_bad

pub returns-clause-either : goal.returns-clause-either
returns-clause-either c = rules_or_bad
