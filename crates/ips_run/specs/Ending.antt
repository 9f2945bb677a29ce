-- What the ending of a run claims of the image, and whose fault it is.
use Rattle.std.specs.Prelude.{◌≡◌, Bool, true, false, not, IsTrue, IsFalse, Option, Some, None, Result, Ok, Err}
use Rattle.ips_contents.specs.Contents.{IsPayloadFault}
use Rattle.ips_history.specs.Run.{Claim}
use Rattle.ips_run.specs.declared.operation.Change.{Change}
use Rattle.ips_run.specs.declared.operation.Decision.{Decision}
use Rattle.ips_run.specs.declared.operation.Decision.TheVariants as decision
use Rattle.ips_run.specs.declared.ending.Ending.{Ending}
use Rattle.ips_run.specs.declared.ending.Ending.TheVariants as ending

-- the image is changed as the operation means, whether or not each actuator after it was run
abbrev pub is_done : {T : Type 0} → Ending T → Bool
is_done (ending.Done told) = true
is_done (ending.ActuatorFailed after words status) = after
is_done (ending.SpawnFault after) = after
is_done other = false

-- what is seen is as before
abbrev pub is_refused : {T : Type 0} → Ending T → Bool
is_refused (ending.Done told) = false
is_refused (ending.BadJournal line) = false
is_refused (ending.Recovered forward) = false
is_refused (ending.ActuatorFailed after words status) = not after
is_refused (ending.SpawnFault after) = not after
is_refused (ending.FolderFault unfinished) = not unfinished
is_refused other = true

-- what was stopped is brought to its end, forward or back
abbrev pub recovery : {T : Type 0} → Ending T → Option Bool
recovery (ending.Recovered forward) = Some forward
recovery other = None

-- there is nothing to change
abbrev pub is_unneeded : {T : Type 0} → Ending T → Bool
is_unneeded ending.NothingToDo = true
is_unneeded other = false

-- a change is left to be brought to its end
abbrev pub is_left : {T : Type 0} → Ending T → Bool
is_left (ending.FolderFault unfinished) = unfinished
is_left other = false

-- the journal is bad
abbrev pub is_bad_journal : {T : Type 0} → Ending T → Bool
is_bad_journal (ending.BadJournal line) = true
is_bad_journal other = false

-- memory ran out
abbrev pub is_out_of_memory : {T : Type 0} → Ending T → Bool
is_out_of_memory ending.OutOfMemory = true
is_out_of_memory other = false

-- a call on the image failed, with nothing left unfinished
abbrev pub is_failed : {T : Type 0} → Ending T → Bool
is_failed (ending.FolderFault unfinished) = not unfinished
is_failed other = false

-- all that an ending claims
abbrev pub claim_of : {T : Type 0} → Ending T → Claim
claim_of x = record { done = is_done x; refused = is_refused x; nothing = is_unneeded x; recovered = recovery x; unfinished = is_left x; bad_journal = is_bad_journal x; out_of_memory = is_out_of_memory x; failed = is_failed x }

-- a call on the image failed
abbrev pub is_folder_fault : {T : Type 0} → Ending T → Bool
is_folder_fault (ending.FolderFault unfinished) = true
is_folder_fault other = false

-- a change was staged and isn't committed: a payload has a fault, or an actuator before the commit wasn't run to its end
abbrev pub is_withdrawn : {T : Type 0} → Ending T → Bool
is_withdrawn (ending.BadPayload name fault) = true
is_withdrawn (ending.ActuatorFailed after words status) = not after
is_withdrawn (ending.SpawnFault after) = not after
is_withdrawn other = false

-- a call on the repository failed
abbrev pub is_source_fault : {T : Type 0} → Ending T → Bool
is_source_fault ending.SourceFault = true
is_source_fault other = false

-- a payload is said to have a fault only that a payload can have
abbrev pub HasPayloadFault : {T : Type 0} → Ending T → Type 0
HasPayloadFault (ending.BadPayload name fault) = IsPayloadFault name fault
HasPayloadFault other = Unit {0}

-- an actuator couldn't be run
abbrev pub is_spawn_fault : {T : Type 0} → Ending T → Bool
is_spawn_fault (ending.SpawnFault after) = true
is_spawn_fault other = false

-- the answer is an ending of this kind
abbrev pub EndsAs : {T X : Type 0} → (Ending T → Bool) → Result X (Ending T) → Type 0
EndsAs kind (Ok x) = ⊥
EndsAs kind (Err e) = IsTrue (kind e)

-- the operation tells something: what is done, what is shown, or why it refuses
abbrev pub is_told : {T : Type 0} → Ending T → Bool
is_told (ending.Done told) = true
is_told (ending.Shown told) = true
is_told (ending.Refused told) = true
is_told other = false

-- of a change that is carried out this is told, where it is done, and else nothing
abbrev pub TellsAtMost : {T : Type 0} → T → Ending T → Type 0
TellsAtMost told (ending.Done is) = is ≡ told
TellsAtMost told (ending.Shown is) = ⊥
TellsAtMost told (ending.Refused is) = ⊥
TellsAtMost told other = Unit {0}

-- what is told is that of a decision of which this is said
abbrev pub TellsAsSaid : {T : Type 0} → (Decision T → Type 0) → Ending T → Type 0
TellsAsSaid says (ending.Done told) = (c : Change _) × says (decision.Change c) × (told ≡ c.told)
TellsAsSaid says (ending.Shown told) = says (decision.Shown told)
TellsAsSaid says (ending.Refused told) = says (decision.Refused told)
TellsAsSaid says other = Unit {0}

-- An ending of a request that hasn't come to its gate: what is seen is as before, nothing was recovered, no journal was read and
-- no actuator run.
pub record IsEarly {T : Type 0} (x : Ending T) : Type 0 where
  pub refused : IsTrue (is_refused x)
  pub undone : IsFalse (is_done x)
  pub unrecovered : recovery x ≡ None
  pub finished : IsFalse (is_left x)
  pub readable : IsFalse (is_bad_journal x)
  pub unspawned : IsFalse (is_spawn_fault x)
  pub payload : HasPayloadFault x
