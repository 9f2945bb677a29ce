-- How it is told that an image isn't made.
use Rattle.std.specs.Prelude.{Ok, Err}
use Rattle.ips_text.specs.declared.refusal.Or.{Or}
use Rattle.ips_text.specs.declared.refusal.Or.TheVariants.{Bad, OutOfMemory}
use Rattle.ips_plan.specs.declared.created.fault.CreateFault.{CreateFault}
use Rattle.ips_plan.specs.declared.created.fault.CreateFault.TheVariants as fault
use Rattle.ips_report.specs.declared.outcome.Outcome.TheVariants as outcome
use Rattle.ips_run.specs.declared.operation.DecideFault.TheVariants.{FolderFault}
use Rattle.ips_tell.specs.refusals.Told.{Answer, as_refused}

-- The image can't be made at a path, or there are too many steps; where a call failed or memory ran out, nothing is decided.
abbrev pub unmade_told : Or CreateFault → Answer
unmade_told (Bad (fault.Unmovable path)) = as_refused (outcome.Unmovable path)
unmade_told (Bad (fault.TooLarge excess)) = as_refused (outcome.TooLarge excess.which excess.count)
unmade_told (Bad fault.FolderFault) = Err (Bad FolderFault)
unmade_told OutOfMemory = Err OutOfMemory
