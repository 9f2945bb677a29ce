use Rattle.ips_laws.proofs.mogrify_laws.OneOutcome.{outcome_once, due_once}
use Rattle.ips_laws.proofs.mogrify_laws.one_outcome.Goals as goal

pub returns-clause-outcome : goal.returns-clause-outcome
returns-clause-outcome c = outcome_once c.rules_are_one.ensures.rules c.rules_are_one.ensures.bad c.rules_are_one.ensures.either

pub returns-clause-due : goal.returns-clause-due
returns-clause-due c = due_once c.rules_are_one.ensures.rules c.rules_are_one.ensures.bad c.rules_are_one.ensures.either
