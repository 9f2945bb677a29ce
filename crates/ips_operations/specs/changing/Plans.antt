-- The change that a plan is.
use Rattle.std.specs.Prelude.{ℕ, List, map}
use Rattle.ips_steps.specs.View.{step_of}
use Rattle.ips_report.specs.declared.outcome.Outcome.{Outcome}
use Rattle.ips_report.specs.declared.outcome.Outcome.TheVariants.{Done}
use Rattle.ips_plan.specs.declared.request_plan.planning.Plan.{Plan}
use Rattle.ips_run.specs.declared.operation.Change.{Change}
use Rattle.ips_tell.specs.told.Laying.{sorts_among}

-- The change that the plan is, with payloads of this publisher: its steps with what is staged for them, the words of its actuator before and after, and
-- what is told where it is done: how many packages it changes, its steps by their sorts, and its licenses.
abbrev pub change_of : List ℕ → Plan → Change Outcome
change_of publisher p = record {
  publisher = publisher;
  steps = p.planned.emitted.steps;
  staged = p.planned.emitted.staged;
  before = p.before;
  after = p.after;
  told = Done p.counts (sorts_among (map step_of p.planned.emitted.steps.items)) p.planned.licenses;
}
