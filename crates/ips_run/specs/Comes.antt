-- Under which cause each ending comes.
use Rattle.std.specs.Prelude.{◌≡◌, ◌≢◌, ◌⊎◌, ℕ, ◌<◌, ◌≤◌, Bool, false, cond, IsTrue, IsFalse, List, [], ◌∷◌, ◌++◌, length, map, take, slice_get, Some, None, is_some}
use Rattle.ips_text.specs.declared.path.RelPath.{RelPath}
use Rattle.ips_outside.specs.Image.{Image}
use Rattle.ips_outside.specs.Running.{Run, Running}
use Rattle.ips_steps.specs.Steps.{Step}
use Rattle.ips_steps.specs.Private.{gate_name}
use Rattle.ips_steps.specs.View.{step_of}
use Rattle.ips_kinds.specs.Tallies.{Carrier, all_counted}
use Rattle.ips_journal.specs.Bad.{IsBadLine}
use Rattle.ips_journal.specs.Reading.{journal_of}
use Rattle.ips_actuate.specs.Running.{succeeded}
use Rattle.ips_commit.specs.Pending.{IsBare, IsPending}
use Rattle.ips_contents.specs.Contents.{AreIntactContents, SaysOfStage}
use Rattle.ips_commit.specs.Staging.{IsCleared}
use Rattle.ips_commit.specs.Recovering.{CanRollForward, IsBadJournal}
use Rattle.ips_commit.specs.declared.found.Pending.TheVariants as pending
use Rattle.ips_contents.specs.declared.fault.StageFault.TheVariants as stage
use Rattle.ips_history.specs.Directories.{shows, creates, fixes, image_for, CanHaveDirectories, IsFirstObstacle}
use Rattle.ips_history.specs.declared.effect.Effect.{Effect}
use Rattle.ips_run.specs.declared.operation.Change.{Change}
use Rattle.ips_run.specs.declared.operation.Decision.{Decision}
use Rattle.ips_run.specs.declared.operation.Decision.TheVariants as decision
use Rattle.ips_run.specs.declared.ending.Ending.{Ending}
use Rattle.ips_run.specs.declared.ending.Ending.TheVariants as ending
use Rattle.ips_run.specs.Ending.{is_refused, is_failed, is_withdrawn}

-- these runs were made, where it is told which were
abbrev pub HasRun : {P : Type 0} → Running P → P → P → List Run → Type 0
HasRun r old new ran = IsTrue (r.tells old) → r.ran new ≡ r.ran old ++ ran

-- something stands at the gate, or the gate is closed and something is left behind it
abbrev pub IsStopped : Image → Type 0
IsStopped t = IsPending t pending.Open ⊎ IsPending t pending.Leftover

-- the operation is to decide: the gate is closed; for one that recovers nothing is left behind it; and for one that makes an image
-- nothing is in the way of the directories of its records
abbrev pub IsToDecide : Effect → Image → Type 0
IsToDecide effect t = (t.look gate_name ≡ None) × (IsTrue (fixes effect) → IsBare t) × (IsTrue (creates effect) → CanHaveDirectories t)

-- nothing stands where staging writes; or the image is the one from before, where it is made perhaps with the directories of its records
abbrev pub HasNoMore : Effect → Image → Image → Type 0
HasNoMore effect held left = IsCleared left ⊎ ((left ≡ held) ⊎ (left ≡ image_for effect held))

-- What a refusal leaves, unless a call on the image failed: of a change that was staged nothing, and else no more than there was.
pub record Leaves {T : Type 0} (effect : Effect) (held left : Image) (x : Ending T) : Type 0 where
  pub withdrawn : IsTrue (is_withdrawn x) → IsCleared left
  pub no_more : IsTrue (is_refused x) → IsFalse (is_failed x) → HasNoMore effect held left

-- the folder couldn't be made safe, or the gate not be looked at
abbrev pub IsUnopened : {T : Type 0} → Ending T → Type 0
IsUnopened (ending.FolderFault unfinished) = IsFalse unfinished
IsUnopened ending.OutOfMemory = Unit {0}
IsUnopened other = ⊥

-- Nothing is to be committed: the operation decides so; or the first payload that has a fault is this one, in a change that it
-- decides on; or a call failed.
abbrev pub IsUnready : {T : Type 0} → Effect → (Decision T → Type 0) → Bool → Image → Ending T → Type 0
IsUnready effect decides tells repository (ending.Shown told) = IsTrue (shows effect) × decides (decision.Shown told)
IsUnready effect decides tells repository (ending.Refused told) = decides (decision.Refused told)
IsUnready effect decides tells repository ending.NothingToDo = IsFalse (shows effect) × decides decision.Nothing
IsUnready effect decides tells repository (ending.BadPayload name fault) = IsFalse (shows effect) × ((c : Change _) × decides (decision.Change c)
    × SaysOfStage tells repository c.publisher c.staged.items (stage.Payload name fault))
IsUnready effect decides tells repository ending.SourceFault = IsFalse (shows effect)
IsUnready effect decides tells repository (ending.FolderFault unfinished) = IsFalse unfinished
IsUnready effect decides tells repository ending.OutOfMemory = Unit {0}
IsUnready effect decides tells repository other = ⊥

-- the actuators of the list before were run, where the change was committed, and so were so many of that list in which one had a fault
abbrev pub front_run : Bool → List (List (List ℕ)) → List (List (List ℕ)) → ℕ → List Run
front_run after before behind index = cond after (map succeeded before) [] ++ map succeeded (take index (cond after behind before))

-- An actuator ended with another status than 0: it is one of the list before, and nothing is committed; or of the list behind, and
-- all steps are laid. Those before it were run, and none behind it.
pub record HasFailed (steps : List Step) (before behind : List (List (List ℕ))) (old now : List Carrier) (Ran : List Run → Type 0) (after : Bool) (words : List (List ℕ)) (status : ℕ) : Type 0 where
  pub index : ℕ
  pub stands : slice_get (cond after behind before) index ≡ Some words
  pub failed : status ≢ 0
  pub counted : now ≡ all_counted (cond after steps []) old
  pub ran : Ran (front_run after before behind index ++ record { words = words; status = status } ∷ [])

-- An actuator couldn't be run: one of the list before, or of the list behind. Those before it were run.
pub record HasNotRun (steps : List Step) (before behind : List (List (List ℕ))) (old now : List Carrier) (Ran : List Run → Type 0) (after : Bool) : Type 0 where
  pub index : ℕ
  pub within : index < length (cond after behind before)
  pub counted : now ≡ all_counted (cond after steps []) old
  pub ran : Ran (front_run after before behind index)

-- an actuator of the list before wasn't run to its end
abbrev pub IsGivenUp : List Step → List (List (List ℕ)) → List (List (List ℕ)) → List Carrier → List Carrier → (List Run → Type 0) → Type 0
IsGivenUp steps before behind old now Ran = ((words : List (List ℕ)) × (status : ℕ) × HasFailed steps before behind old now Ran false words status) ⊎ HasNotRun steps before behind old now Ran false

-- The commit was begun and not finished: the actuators before were run, and some of the steps are laid and counted.
pub record IsCommittedPartly (steps : List Step) (before : List (List (List ℕ))) (old now : List Carrier) (Ran : List Run → Type 0) : Type 0 where
  pub laid : ℕ
  pub few : laid ≤ length steps
  pub counted : now ≡ all_counted (take laid steps) old
  pub ran : Ran (map succeeded before)

-- The change is done: each step was counted by the first kind that takes it, and the actuators before and behind were run, in this
-- order, each with status 0.
pub record IsAllDone (steps : List Step) (before behind : List (List (List ℕ))) (old now : List Carrier) (Ran : List Run → Type 0) : Type 0 where
  pub counted : now ≡ all_counted steps old
  pub ran : Ran (map succeeded before ++ map succeeded behind)

-- How far a change that stands ready is carried out. A call on the image failed in its commit; or as it was to be taken away, since an
-- actuator before the commit wasn't run to its end.
abbrev pub IsCarriedTo : {T : Type 0} → List Step → List (List (List ℕ)) → List (List (List ℕ)) → T → List Carrier → List Carrier → (List Run → Type 0) → Ending T → Type 0
IsCarriedTo steps before behind told old now Ran (ending.Done is) = (is ≡ told) × IsAllDone steps before behind old now Ran
IsCarriedTo steps before behind told old now Ran (ending.ActuatorFailed after words status) = HasFailed steps before behind old now Ran after words status
IsCarriedTo steps before behind told old now Ran (ending.SpawnFault after) = HasNotRun steps before behind old now Ran after
IsCarriedTo steps before behind told old now Ran (ending.FolderFault unfinished) = (IsTrue unfinished × IsCommittedPartly steps before old now Ran)
    ⊎ (IsFalse unfinished × IsGivenUp steps before behind old now Ran)
IsCarriedTo steps before behind told old now Ran other = ⊥

-- how far what was stopped is brought to its end: forward where something stands at the gate, and then the steps that its marks
-- leave could be laid. The journal behind it is bad, and
-- where it isn't of the grammar nothing is changed or counted, nor where memory ran out. An open gate alone leaves something unfinished.
abbrev pub IsBackTo : {T : Type 0} → Image → Image → List Carrier → List Carrier → Ending T → Type 0
IsBackTo held left old now (ending.Recovered forward) = (forward ≡ is_some (held.look gate_name)) × (IsTrue forward → (steps : List Step) × (count : ℕ) × CanRollForward held steps count)
IsBackTo held left old now (ending.BadJournal line) = (held.look gate_name ≢ None) × IsBadJournal held left old now line × (IsBadLine (journal_of held) line → (left ≡ held) × (now ≡ old))
IsBackTo held left old now (ending.FolderFault unfinished) = (IsTrue unfinished → held.look gate_name ≢ None) × (IsFalse unfinished → now ≡ old)
IsBackTo held left old now ending.OutOfMemory = (left ≡ held) × (now ≡ old)
IsBackTo held left old now other = ⊥

-- Each ending comes under its cause, phase by phase: a call failed before the gate was looked at; something stands at the gate, and
-- the operation doesn't recover; it does, and something was stopped; it makes an image, and something else than a directory is in
-- the way; nothing is to be committed; or a change that was decided on, whose payloads have no fault, was carried out as far as the
-- ending says. No actuator is run but by a change that is carried out. Behind a closed gate each leaves what a refusal may leave.
pub data Comes {T : Type 0} (effect : Effect) (decides : Decision T → Type 0) (tells : Bool) (repository held left : Image) (old now : List Carrier) (Ran : List Run → Type 0) : Ending T → Type 0 where
  Unopened : {x : Ending T} → IsUnopened x → Leaves effect held left x → now ≡ old → Ran [] → Comes effect decides tells repository held left old now Ran x
  Unfinished : IsFalse (fixes effect) → held.look gate_name ≢ None → left ≡ held → now ≡ old → Ran [] → Comes effect decides tells repository held left old now Ran ending.Unfinished
  Back : {x : Ending T} → IsTrue (fixes effect) → IsStopped held → IsBackTo held left old now x → Ran [] → Comes effect decides tells repository held left old now Ran x
  NotDirectory : {path : RelPath} → IsTrue (creates effect) → held.look gate_name ≡ None → IsFirstObstacle held path.bytes → left ≡ held → now ≡ old → Ran [] → Comes effect decides tells repository held left old now Ran (ending.NotDirectory path)
  Unready : {x : Ending T} → IsToDecide effect held → IsUnready effect decides tells repository x → Leaves effect held left x → now ≡ old → Ran [] → Comes effect decides tells repository held left old now Ran x
  Carried : {x : Ending T} (c : Change T) → IsFalse (shows effect) → IsToDecide effect held → decides (decision.Change c) → (IsTrue tells → AreIntactContents repository c.publisher c.staged.items)
      → Leaves effect held left x → IsCarriedTo (map step_of c.steps.items) c.before.items c.after.items c.told old now Ran x → Comes effect decides tells repository held left old now Ran x
