-- Why a command leads to no new state, or a request has no plan, as it is told.
use Rattle.std.specs.Prelude.{Option, Some, None, Ok, Err}
use Rattle.std.specs.Option.{option_map}
use Rattle.ips_text.specs.declared.refusal.Or.{Or}
use Rattle.ips_text.specs.declared.refusal.Or.TheVariants.{Bad, OutOfMemory}
use Rattle.ips_digest.specs.declared.name.PayloadName.{PayloadName}
use Rattle.ips_repo.specs.declared.fault.RepoFault.{RepoFault}
use Rattle.ips_repo.specs.declared.fault.RepoFault.TheVariants as repo
use Rattle.ips_next.specs.declared.fault.NextFault.{NextFault}
use Rattle.ips_next.specs.declared.fault.NextFault.TheVariants as next
use Rattle.ips_plan.specs.declared.request_plan.fault.PlanFault.{PlanFault}
use Rattle.ips_plan.specs.declared.request_plan.fault.PlanFault.TheVariants as plan
use Rattle.ips_report.specs.declared.outcome.Outcome.{Outcome}
use Rattle.ips_report.specs.declared.outcome.Outcome.TheVariants as outcome
use Rattle.ips_run.specs.declared.operation.Decision.TheVariants.{Nothing}
use Rattle.ips_run.specs.declared.operation.DecideFault.TheVariants.{FolderFault, SourceFault}
use Rattle.ips_tell.specs.refusals.Told.{Answer, as_refused}

-- Why a command leads to no new state, as it is refused; where nothing is to be done, that is what is decided.
abbrev pub unled_told : Or NextFault → Answer
unled_told (Bad next.OldFormat) = as_refused outcome.OldFormat
unled_told (Bad next.NoRepository) = as_refused outcome.NoRepository
unled_told (Bad (next.BadCatalog fault)) = as_refused (outcome.BadCatalog fault)
unled_told (Bad (next.NoMatch pattern)) = as_refused (outcome.NoMatch pattern)
unled_told (Bad (next.Ambiguous pattern stems)) = as_refused (outcome.Ambiguous pattern stems)
unled_told (Bad (next.ManifestMissing fmri)) = as_refused (outcome.ManifestMissing fmri)
unled_told (Bad (next.BadManifest fmri fault)) = as_refused (outcome.BadManifest fmri fault)
unled_told (Bad (next.BadDepend fmri line)) = as_refused (outcome.BadDepend fmri line)
unled_told (Bad (next.TooLarge which count)) = as_refused (outcome.TooLarge which count)
unled_told (Bad (next.NoSolution stems refutation)) = as_refused (outcome.NoSolution stems refutation)
unled_told (Bad (next.SearchSpent limit)) = as_refused (outcome.SearchSpent limit)
unled_told (Bad next.NothingToDo) = Ok Nothing
unled_told (Bad next.SourceFault) = Err (Bad SourceFault)
unled_told OutOfMemory = Err OutOfMemory

-- What is wrong with a payload, as it is told; None where it is no fault that a payload can have.
abbrev pub payload_told : PayloadName → RepoFault → Option Outcome
payload_told name repo.NoRepository = None
payload_told name (repo.BadCatalog fault) = None
payload_told name repo.ManifestMissing = None
payload_told name (repo.BadManifest fault) = None
payload_told name repo.PayloadMissing = Some (outcome.PayloadMissing name)
payload_told name (repo.PayloadDamaged found) = Some (outcome.PayloadDamaged name found)
payload_told name (repo.Compressed found) = Some (outcome.Compressed name found)
payload_told name (repo.TooLarge which count) = Some (outcome.TooLarge which count)
payload_told name repo.SourceFault = None

-- Why a request has no plan, as it is refused; None where a payload is said to have what is no fault of a payload.
abbrev pub unplanned_told : Or PlanFault → Option Answer
unplanned_told (Bad (plan.Reserved path)) = Some (as_refused (outcome.Reserved path))
unplanned_told (Bad (plan.Clash clash)) = Some (as_refused (outcome.Clash clash))
unplanned_told (Bad (plan.BadAccountLine book line)) = Some (as_refused (outcome.BadAccountLine book line))
unplanned_told (Bad (plan.IdTaken id)) = Some (as_refused (outcome.IdTaken id))
unplanned_told (Bad (plan.UnknownOwner path name)) = Some (as_refused (outcome.UnknownOwner path name))
unplanned_told (Bad (plan.LicenseNeeded list)) = Some (as_refused (outcome.LicenseNeeded list))
unplanned_told (Bad (plan.Unmovable path)) = Some (as_refused (outcome.Unmovable path))
unplanned_told (Bad (plan.Payload name fault)) = option_map as_refused (payload_told name fault)
unplanned_told (Bad (plan.TooLarge which count)) = Some (as_refused (outcome.TooLarge which count))
unplanned_told (Bad plan.SourceFault) = Some (Err (Bad SourceFault))
unplanned_told (Bad plan.FolderFault) = Some (Err (Bad FolderFault))
unplanned_told OutOfMemory = Some (Err OutOfMemory)
