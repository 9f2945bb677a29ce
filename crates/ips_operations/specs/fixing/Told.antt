-- How it is told that an image isn't repaired.
use Rattle.std.specs.Prelude.{Err}
use Rattle.ips_text.specs.declared.refusal.Or.{Or}
use Rattle.ips_text.specs.declared.refusal.Or.TheVariants.{Bad, OutOfMemory}
use Rattle.ips_repair.specs.declared.fault.RepairFault.{RepairFault}
use Rattle.ips_repair.specs.declared.fault.RepairFault.TheVariants as fault
use Rattle.ips_report.specs.declared.outcome.Outcome.TheVariants as outcome
use Rattle.ips_run.specs.declared.operation.DecideFault.TheVariants.{FolderFault}
use Rattle.ips_tell.specs.refusals.Told.{Answer, as_refused}

-- The repair can't be carried out at a path, or there are too many steps; where a call failed or memory ran out, nothing is decided.
abbrev pub unrepaired_told : Or RepairFault → Answer
unrepaired_told (Bad (fault.Unmovable path)) = as_refused (outcome.Unmovable path)
unrepaired_told (Bad (fault.TooLarge excess)) = as_refused (outcome.TooLarge excess.which excess.count)
unrepaired_told (Bad fault.FolderFault) = Err (Bad FolderFault)
unrepaired_told OutOfMemory = Err OutOfMemory
