use Rattle.ips_top.specs.Runs as runs
use Rattle.ips_top.proofs.Asking.{has_number}
use Rattle.ips_top.proofs.Commands.{misworded}
use Rattle.ips_top.proofs.running.run.Goals as goal

pub returns-in-Ok-clause-runs : goal.returns-in-Ok-clause-runs
returns-in-Ok-clause-runs g c = runs.Worded c.in-Ok.command c.in-Ok.ensures.found c.perform.ensures.does

pub returns-in-Err-Bad-clause-runs : goal.returns-in-Err-Bad-clause-runs
returns-in-Err-Bad-clause-runs g c = misworded _ _ _ _ _ _ _ c.in-Err-Bad.field-0-0 (rw c.in-Err-Bad.field-0-is at c.in-Err-Bad.ensures.bad) c.finish.ensures.outcome

pub perform-requires-clause-number : goal.perform-requires-clause-number
perform-requires-clause-number g c = has_number _ c.in-Ok.command c.in-Ok.ensures.found
