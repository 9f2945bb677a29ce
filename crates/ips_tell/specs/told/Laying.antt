-- The change that steps alone make.
use Rattle.std.specs.Prelude.{◌≡◌, List, [], ℕ, map}
use Rattle.std.specs.declared.vec.Vec.{Vec}
use Rattle.std.specs.declared.alloc.Global.{Global}
use Rattle.ips_text.specs.declared.text.Text.{Text}
use Rattle.ips_counts.specs.declared.counts.Counts.{Counts}
use Rattle.ips_counts.specs.declared.sorts.Sorts.{Sorts}
use Rattle.ips_kinds.specs.Tallies.{count_of_sort}
use Rattle.ips_steps.specs.Steps.{Step}
use Rattle.ips_steps.specs.View.{step_of}
use Rattle.ips_steps.specs.declared.step.Sort.TheVariants.{Fresh, Gone, Hard, Link, Mode, Put}
use Rattle.ips_emit.specs.declared.emitting.Emitted.{Emitted}
use Rattle.ips_report.specs.declared.outcome.Outcome.{Outcome}
use Rattle.ips_report.specs.declared.outcome.Outcome.TheVariants.{Done}
use Rattle.ips_run.specs.declared.operation.Change.{Change}
use Rattle.ips_run.specs.declared.operation.Decision.{Decision}
use Rattle.ips_run.specs.declared.operation.Decision.TheVariants as decision
use Rattle.ips_tell.specs.told.Naming.{AreNamed}

-- How many of the steps are of each sort.
abbrev pub sorts_among : List Step → Sorts
sorts_among steps = record {
  gone = count_of_sort Gone steps;
  fresh = count_of_sort Fresh steps;
  mode = count_of_sort Mode steps;
  put = count_of_sort Put steps;
  link = count_of_sort Link steps;
  hard = count_of_sort Hard steps;
}

-- No package is installed, updated or removed.
abbrev pub no_counts : Counts
no_counts = record { installs = 0; updates = 0; removes = 0 }

-- The change is that of these steps with what is staged for them, with payloads of this publisher: no actuator is run, and where it is done that is told, with the steps by their
-- sorts, no package counted and no license shown; and its payloads have names.
pub record IsChangeOfSteps (publisher : List ℕ) (e : Emitted) (c : Change Outcome) : Type 0 where
  pub publisher_is : c.publisher ≡ publisher
  pub steps : c.steps ≡ e.steps
  pub staged : c.staged ≡ e.staged
  pub named : AreNamed e.staged.items
  pub none_before : c.before.items ≡ []
  pub none_after : c.after.items ≡ []
  pub licenses : Vec Text Global
  pub none_shown : licenses.items ≡ []
  pub told : c.told ≡ Done no_counts (sorts_among (map step_of e.steps.items)) licenses

-- A change that is decided on tells its steps by their sorts, where it is done.
abbrev pub TellsItsSteps : Decision Outcome → Type 0
TellsItsSteps (decision.Change c) = (counts : Counts) × (licenses : Vec Text Global) × (c.told ≡ Done counts (sorts_among (map step_of c.steps.items)) licenses)
TellsItsSteps other = Unit {0}
