-- How faults are told: as outcomes that are refused, or as what decides nothing.
use Rattle.std.specs.Prelude.{Result, Ok, Err}
use Rattle.ips_text.specs.declared.refusal.Or.{Or}
use Rattle.ips_text.specs.declared.refusal.Or.TheVariants.{Bad, OutOfMemory}
use Rattle.ips_load.specs.declared.fault.StateFault.{StateFault}
use Rattle.ips_load.specs.declared.fault.StateFault.TheVariants as state
use Rattle.ips_meaning.specs.declared.fault.WantFault.{WantFault}
use Rattle.ips_meaning.specs.declared.fault.WantFault.TheVariants as want
use Rattle.ips_report.specs.declared.outcome.Outcome.{Outcome}
use Rattle.ips_report.specs.declared.outcome.Outcome.TheVariants as outcome
use Rattle.ips_run.specs.declared.operation.Decision.{Decision}
use Rattle.ips_run.specs.declared.operation.Decision.TheVariants.{Refused}
use Rattle.ips_run.specs.declared.operation.DecideFault.{DecideFault}
use Rattle.ips_run.specs.declared.operation.DecideFault.TheVariants.{FolderFault}

-- What is decided, or why nothing is.
abbrev pub Answer : Type 0
Answer = Result (Decision Outcome) (Or DecideFault)

-- The outcome is refused.
abbrev pub as_refused : Outcome → Answer
as_refused told = Ok (Refused told)

-- Why the records can't be read, as it is refused; a call that failed, or want of memory, decides nothing.
abbrev pub unread_told : Or StateFault → Answer
unread_told (Bad state.NoImage) = as_refused outcome.NoImage
unread_told (Bad (state.BadImage file line)) = as_refused (outcome.BadImage file line)
unread_told (Bad (state.TooLarge which count)) = as_refused (outcome.TooLarge which count)
unread_told (Bad state.FolderFault) = Err (Bad FolderFault)
unread_told OutOfMemory = Err OutOfMemory

-- Why packages mean no image, as it is refused.
abbrev pub unmeant_told : WantFault → Decision Outcome
unmeant_told (want.Reserved path) = Refused (outcome.Reserved path)
unmeant_told (want.Clash clash) = Refused (outcome.Clash clash)
