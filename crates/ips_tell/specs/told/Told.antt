-- How the ending of a run is told as an outcome.
use Rattle.std.specs.Prelude.{◌≡◌, Bool, true, false, not, Option, Some, None}
use Rattle.ips_digest.specs.declared.name.PayloadName.{PayloadName}
use Rattle.ips_repo.specs.declared.fault.RepoFault.{RepoFault}
use Rattle.ips_repo.specs.declared.fault.RepoFault.TheVariants as fault
use Rattle.ips_history.specs.Run.{Claim}
use Rattle.ips_report.specs.declared.outcome.Outcome.{Outcome}
use Rattle.ips_report.specs.declared.outcome.Outcome.TheVariants as outcome
use Rattle.ips_run.specs.declared.operation.Decision.{Decision}
use Rattle.ips_run.specs.declared.operation.Decision.TheVariants as decision
use Rattle.ips_run.specs.declared.ending.Ending.{Ending}
use Rattle.ips_run.specs.declared.ending.Ending.TheVariants as ending

-- ---- manners of ending

-- The manners in which a run ends: words that are no command, a change that is done, something that is shown, a refusal, nothing to do, an open gate, a bad
-- journal, a recovery, an actuator that failed or couldn't be run, a call that failed, and want of memory.
pub data Manner : Type 0 where
  Wording : Manner
  Carried : Manner
  Showing : Manner
  Refusing : Manner
  Needless : Manner
  AtGate : Manner
  BadJournal : Manner
  Recovering : Bool → Manner
  Acting : Bool → Manner
  Spawning : Bool → Manner
  AtSource : Manner
  AtFolder : Bool → Manner
  Starving : Manner

-- In which manner the run has ended that an outcome tells.
abbrev pub manner_of : Outcome → Manner
manner_of (outcome.Usage place why) = Wording
manner_of (outcome.Done counts steps licenses) = Carried
manner_of (outcome.Shown text) = Showing
manner_of outcome.NothingToDo = Needless
manner_of outcome.Unfinished = AtGate
manner_of (outcome.BadJournal line) = BadJournal
manner_of (outcome.Recovered forward) = Recovering forward
manner_of (outcome.ActuatorFailed after words status) = Acting after
manner_of (outcome.SpawnFault after) = Spawning after
manner_of outcome.SourceFault = AtSource
manner_of (outcome.FolderFault unfinished) = AtFolder unfinished
manner_of outcome.OutOfMemory = Starving
manner_of other = Refusing

-- Each decision is told by an outcome of its manner: a change as done, what is shown as shown, and a refusal by its cause.
abbrev pub IsToldAs : Decision Outcome → Type 0
IsToldAs (decision.Change c) = manner_of c.told ≡ Carried
IsToldAs decision.Nothing = Unit {0}
IsToldAs (decision.Shown told) = manner_of told ≡ Showing
IsToldAs (decision.Refused told) = manner_of told ≡ Refusing

-- ---- from an ending to its outcome

-- How a payload's fault is told; others than those of payloads aren't any.
abbrev pub payload_told : PayloadName → RepoFault → Outcome
payload_told name fault.PayloadMissing = outcome.PayloadMissing name
payload_told name (fault.PayloadDamaged found) = outcome.PayloadDamaged name found
payload_told name (fault.Compressed found) = outcome.Compressed name found
payload_told name (fault.TooLarge which count) = outcome.TooLarge which count
payload_told name other = outcome.SourceFault

-- How an ending is told: something else than a directory in the way of the records is line 0 of a bad image.
abbrev pub told_as : Ending Outcome → Outcome
told_as (ending.Done told) = told
told_as (ending.Shown told) = told
told_as (ending.Refused told) = told
told_as ending.NothingToDo = outcome.NothingToDo
told_as ending.Unfinished = outcome.Unfinished
told_as (ending.BadJournal line) = outcome.BadJournal line
told_as (ending.Recovered forward) = outcome.Recovered forward
told_as (ending.NotDirectory path) = outcome.BadImage path 0
told_as (ending.BadPayload name fault) = payload_told name fault
told_as (ending.ActuatorFailed after words status) = outcome.ActuatorFailed after words status
told_as (ending.SpawnFault after) = outcome.SpawnFault after
told_as ending.SourceFault = outcome.SourceFault
told_as (ending.FolderFault unfinished) = outcome.FolderFault unfinished
told_as ending.OutOfMemory = outcome.OutOfMemory

-- ---- what an outcome claims

-- The image is as the request means, whether or not each actuator behind the commit was run.
abbrev pub claims_done : Manner → Bool
claims_done Carried = true
claims_done (Acting after) = after
claims_done (Spawning after) = after
claims_done other = false

-- What is seen is as before.
abbrev pub claims_refused : Manner → Bool
claims_refused Carried = false
claims_refused BadJournal = false
claims_refused (Recovering forward) = false
claims_refused (Acting after) = not after
claims_refused (Spawning after) = not after
claims_refused (AtFolder unfinished) = not unfinished
claims_refused other = true

-- Nothing is to be done.
abbrev pub claims_nothing : Manner → Bool
claims_nothing Needless = true
claims_nothing other = false

-- What was stopped is brought to its end, forward or back.
abbrev pub claims_recovered : Manner → Option Bool
claims_recovered (Recovering forward) = Some forward
claims_recovered other = None

-- A change is left unfinished.
abbrev pub claims_unfinished : Manner → Bool
claims_unfinished (AtFolder unfinished) = unfinished
claims_unfinished other = false

-- The journal is bad.
abbrev pub claims_bad_journal : Manner → Bool
claims_bad_journal BadJournal = true
claims_bad_journal other = false

-- Memory ran out.
abbrev pub claims_out_of_memory : Manner → Bool
claims_out_of_memory Starving = true
claims_out_of_memory other = false

-- A call on the image failed, and nothing is left unfinished.
abbrev pub claims_failed : Manner → Bool
claims_failed (AtFolder unfinished) = not unfinished
claims_failed other = false

-- All that is claimed of the image.
abbrev pub claimed : Manner → Claim
claimed m = record { done = claims_done m; refused = claims_refused m; nothing = claims_nothing m; recovered = claims_recovered m; unfinished = claims_unfinished m; bad_journal = claims_bad_journal m; out_of_memory = claims_out_of_memory m; failed = claims_failed m }

-- ---- whose fault it is

-- A call on the image failed.
abbrev pub blames_folder : Manner → Bool
blames_folder (AtFolder unfinished) = true
blames_folder other = false

-- A call on the repository failed.
abbrev pub blames_source : Manner → Bool
blames_source AtSource = true
blames_source other = false

-- An actuator couldn't be run.
abbrev pub blames_spawner : Manner → Bool
blames_spawner (Spawning after) = true
blames_spawner other = false
