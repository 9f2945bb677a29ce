-- What the phases of a run do to a folder.
use Rattle.std.specs.Prelude.{◌≡◌, ◌≢◌, ◌⊎◌, ℕ, ◌≤◌, Bool, true, false, cond, IsTrue, IsFalse, List, length, map, take, slice_get, Option, Some, None, IfSome}
use Rattle.ips_outside.specs.Image.{Image}
use Rattle.ips_outside.specs.State.{State, MayLeave, nowhere, settled}
use Rattle.ips_outside.specs.Outside.{Outside, Rose}
use Rattle.ips_outside.specs.Running.{Run}
use Rattle.ips_folder.specs.Calls.{ChangesOnly, Throughout}
use Rattle.ips_steps.specs.Steps.{Step}
use Rattle.ips_steps.specs.Private.{gate_name, visible}
use Rattle.ips_steps.specs.Owed.{FolderOwes}
use Rattle.ips_steps.specs.View.{step_of}
use Rattle.ips_kinds.specs.Tallies.{Carrier, all_counted}
use Rattle.ips_journal.specs.Text.{journal_text}
use Rattle.ips_actuate.specs.declared.running.ActFault.{ActFault}
use Rattle.ips_actuate.specs.declared.running.ActFault.TheVariants as act_fault
use Rattle.ips_contents.specs.Contents.{AreIntactContents, SaysOfStage}
use Rattle.ips_commit.specs.Pending.{is_swept}
use Rattle.ips_commit.specs.Staging.{IsStaged, IsCleared, NoMoreReady}
use Rattle.ips_commit.specs.Due.{DueOnceOpen}
use Rattle.ips_commit.specs.Recovering.{IsJournalled, IsOpenedOver, CanResume, IsUnfinished}
use Rattle.ips_contents.specs.declared.fault.StageFault.TheVariants as stage
use Rattle.ips_commit.specs.declared.fault.CommitFault.{CommitFault}
use Rattle.ips_commit.specs.declared.fault.CommitFault.TheVariants as commit_fault
use Rattle.ips_commit.specs.declared.found.Pending.{Pending}
use Rattle.ips_commit.specs.declared.found.Pending.TheVariants as pending
use Rattle.ips_history.specs.Due.{HasEnded}
use Rattle.ips_history.specs.Directories.{fixes}
use Rattle.ips_history.specs.Transition.{StillOwes, IsRequestRun}
use Rattle.ips_history.specs.Run.{IsRecovered, StaysShut}
use Rattle.ips_history.specs.declared.effect.Effect.{Effect}
use Rattle.ips_history.specs.declared.effect.Effect.TheVariants as effect
use Rattle.ips_run.specs.declared.operation.Change.{Change}
use Rattle.ips_run.specs.declared.operation.Decision.{Decision}
use Rattle.ips_run.specs.declared.operation.Decision.TheVariants as decision
use Rattle.ips_run.specs.declared.preparing.Prepared.{Prepared}
use Rattle.ips_run.specs.declared.next.Next.{Next}
use Rattle.ips_run.specs.declared.next.Next.TheVariants as next
use Rattle.ips_run.specs.declared.ending.Ending.{Ending}
use Rattle.ips_run.specs.declared.ending.Ending.TheVariants as ending
use Rattle.ips_run.specs.Ending.{is_done, is_refused, is_unneeded, recovery, is_left, is_bad_journal, is_out_of_memory, is_failed, TellsAtMost}
use Rattle.ips_run.specs.Comes.{IsGivenUp}

-- what comes behind a closed gate at which nothing is to be recovered
abbrev pub decided_next : Effect → Next
decided_next effect.Shows = next.Show
decided_next effect.Changes = next.Change
decided_next effect.Creates = next.Create
decided_next effect.Fixes = next.Change

-- what comes behind the look at the gate
abbrev pub next_of : Effect → Pending → Next
next_of effect pending.Nothing = decided_next effect
next_of effect pending.Leftover = cond (fixes effect) next.Recover (decided_next effect)
next_of effect pending.Open = cond (fixes effect) next.Recover next.Refuse

-- how a run ends where a change isn't committed
abbrev pub uncommitted_as : {T : Type 0} → CommitFault → Ending T
uncommitted_as commit_fault.Unchanged = ending.FolderFault false
uncommitted_as commit_fault.Unfinished = ending.FolderFault true
uncommitted_as (commit_fault.BadJournal line) = ending.BadJournal line

-- A change stands ready, and means so: it is one that was decided on, with its actuators and what it tells, and its payloads have no
-- fault.
pub record IsReadied {T : Type 0} (means : Image → Image → Type 0) (decides : Decision T → Type 0) (tells : Bool) (repository : Image) (old new : State) (p : Prepared T) : Type 0 where
  pub change : Change T
  pub decided : decides (decision.Change change)
  pub before : p.before.items ≡ change.before.items
  pub behind : p.after.items ≡ change.after.items
  pub told : p.told ≡ change.told
  pub after : Image
  pub staged : IsStaged (map step_of change.steps.items) after new
  pub is_meant : means (visible old.held) after
  pub intact : IsTrue tells → AreIntactContents repository change.publisher change.staged.items

-- why a change isn't staged: the first payload that has a fault is this one, or a call failed
abbrev pub IsUnstaged : {T : Type 0} → Bool → Image → Change T → Ending T → Type 0
IsUnstaged tells repository c (ending.BadPayload name fault) = SaysOfStage tells repository c.publisher c.staged.items (stage.Payload name fault)
IsUnstaged tells repository c ending.SourceFault = Unit {0}
IsUnstaged tells repository c (ending.FolderFault unfinished) = IsFalse unfinished
IsUnstaged tells repository c ending.OutOfMemory = Unit {0}
IsUnstaged tells repository c other = ⊥

-- How a run ends where an actuator of the list before the commit, or after it, wasn't run to its end.
pub data IsUnrun {T : Type 0} (list : List (List (List ℕ))) (after : Bool) : ActFault → Ending T → Type 0 where
  Failed : {index status : ℕ} {words : List (List ℕ)} → slice_get list index ≡ Some words → IsUnrun list after (act_fault.Failed index status) (ending.ActuatorFailed after words status)
  Spawn : {index : ℕ} → IsUnrun list after (act_fault.Spawn index) (ending.SpawnFault after)

-- how it ends where that is before the commit: so; or what stands ready couldn't be taken away
abbrev pub IsUnrunBefore : {T : Type 0} → List (List (List ℕ)) → ActFault → Ending T → Type 0
IsUnrunBefore list fault x = IsUnrun list false fault x ⊎ (x ≡ ending.FolderFault false)

-- some of these steps are laid and counted, and a recovery lays no more than a thousand of them again
abbrev pub IsResumable : {F : Type 0} → Outside F → List Carrier → List Carrier → F → Type 0
IsResumable o before now new = (steps : List Step) × (laid : ℕ) × (laid ≤ length steps) × (now ≡ all_counted (take laid steps) before) × CanResume (o.state new) 0 laid

-- nothing stands at the gate, and nothing would after a crash
abbrev pub IsSafelyShut : State → Type 0
IsSafelyShut s = (s.held.look gate_name ≡ None) × ((c : Image) → MayLeave s c → c.look gate_name ≡ None)

-- it is so at every moment
abbrev pub StaysSafelyShut : {F : Type 0} → Outside F → F → F → Type 0
StaysSafelyShut o old new = Throughout o old new IsSafelyShut

-- A change is carried out as far as the ending says: the image before it is owed, or the one that it means, which is due
-- once the gate is safely open, and reached at the end; what was refused has changed only what staging writes, and unless a call failed
-- nothing stands there.
pub record IsCarried {F T : Type 0} (o : Outside F) (a : Image) (x : Ending T) (before now : List Carrier) (old new : F) : Type 0 where
  pub owed : Throughout o old new (FolderOwes journal_text (visible (o.state old).held) (Some a) false)
  pub due : DueOnceOpen o (visible (o.state old).held) a old new
  pub done : IsTrue (is_done x) → HasEnded (Some a) (o.state new)
  pub kept : IsTrue (is_refused x) → ChangesOnly o is_swept nowhere old new
  pub unopened : IsTrue (is_refused x) → StaysSafelyShut o old new
  pub cleared : IsTrue (is_refused x) → IsFalse (is_failed x) → IsCleared (o.state new).held
  pub resumes : IsTrue (is_left x) → IsResumable o before now new
  pub unrecovered : recovery x ≡ None
  pub readable : IsFalse (is_bad_journal x)
  pub has_memory : IsFalse (is_out_of_memory x)

-- A request from a closed gate on: the image before it is owed, or one that it means; a refusal leaves what is seen as before and
-- makes no call at the gate that may change something; and memory runs out only before the gate's call.
pub record IsAsked {F T : Type 0} (o : Outside F) (means : Image → Image → Type 0) (x : Ending T) (before now : List Carrier) (at new : F) : Type 0 where
  pub request : IsRequestRun o means (is_done x) at new
  pub unseen : IsTrue (is_refused x) → visible (o.state new).held ≡ visible (o.state at).held
  pub unopened : IsTrue (is_refused x) → StaysSafelyShut o at new
  pub resumes : IsTrue (is_left x) → IsResumable o before now new
  pub unrecovered : recovery x ≡ None
  pub readable : IsFalse (is_bad_journal x)
  pub out_of_memory : IsTrue (is_out_of_memory x) → StaysShut o at new

-- A run that brings to its end what was stopped, or changes nothing that is owed.
pub record IsBack {F T : Type 0} (o : Outside F) (x : Ending T) (before now : List Carrier) (at new : F) : Type 0 where
  pub still : StillOwes o at new
  pub undone : IsFalse (is_done x)
  pub needed : IsFalse (is_unneeded x)
  pub recovered : IfSome (recovery x) (λ forward. IsRecovered o forward before now at new)
  pub unseen : IsTrue (is_refused x) → visible (o.state new).held ≡ visible (o.state at).held
  pub unopened : IsTrue (is_refused x) → (o.state at).held.look gate_name ≡ None → StaysShut o at new
  pub readable : IsTrue (is_bad_journal x) → (b : Image) (a : Option Image) (due : Bool) → FolderOwes journal_text b a due (o.state at) → ⊥
  pub out_of_memory : IsTrue (is_out_of_memory x) → o.state new ≡ o.state at
  pub resumes : IsTrue (is_left x) → ((o.state at).held.look gate_name ≢ None)
      × ((steps : List Step) (count : ℕ) → IsJournalled (o.state at).held steps count → IsUnfinished (o.state at).held (o.state new) steps count before now)

-- nothing has happened to the image, or what was touched is made safe and nothing else has
abbrev pub IsKeptOrSettled : {F : Type 0} → Outside F → F → F → Type 0
IsKeptOrSettled o old new = (o.state new ≡ o.state old) ⊎ (o.state new ≡ settled (o.state old))

-- no sign of a commit is left: nothing has happened to the image; or the gate isn't touched, and no list of steps stands ready and safe, with
-- nothing touched, unless the image is the one from before
abbrev pub IsUnbegun : State → State → Type 0
IsUnbegun old new = (new ≡ old) ⊎ (IsFalse (new.whole gate_name) × NoMoreReady old new)

-- This moment isn't before a run: neither by the clock nor by a count.
pub record IsNotBefore {F : Type 0} (o : Outside F) (old at : F) : Type 0 where
  pub time : o.clock old ≤ o.clock at
  pub faults : o.faults old ≤ o.faults at
  pub changes : o.changes old ≤ o.changes at

-- A change is done whose journal lists just the steps of the decision that it is told by: at a moment of this run they stood ready and safe there,
-- and then the gate was opened over it; each step was counted; and the image that they mean is seen at the end.
pub record HasListed {F T : Type 0} (o : Outside F) (decides : Decision T → Type 0) (x : Ending T) (before now : List Carrier) (old new : F) : Type 0 where
  pub change : Change T
  pub decided : decides (decision.Change change)
  pub told : TellsAtMost change.told x
  pub ready : F
  pub after : Image
  pub staged : IsStaged (map step_of change.steps.items) after (o.state ready)
  pub since : IsNotBefore o old ready
  pub opened : IsOpenedOver o (map step_of change.steps.items) ready new
  pub counted : now ≡ all_counted (map step_of change.steps.items) before
  pub ended : HasEnded (Some after) (o.state new)

-- A call failed in a commit: since a moment of this run at which a change stood ready, a call failed, and one was made that may
-- have changed something.
pub record HasFailedInCommit {F : Type 0} (o : Outside F) (old new : F) : Type 0 where
  pub ready : F
  pub steps : List Step
  pub after : Image
  pub staged : IsStaged steps after (o.state ready)
  pub since : IsNotBefore o old ready
  pub until : o.clock ready ≤ o.clock new
  pub rose : Rose (o.faults ready) (o.faults new)
  pub changed : Rose (o.changes ready) (o.changes new)

-- A call failed in a recovery from an open gate: since a moment of this run at which what was touched was made safe and nothing else
-- had happened, a call failed, and one was made that may have changed something.
pub record HasFailedInRecovery {F : Type 0} (o : Outside F) (old new : F) : Type 0 where
  pub opened : F
  pub synced : o.state opened ≡ settled (o.state old)
  pub stands : (o.state opened).held.look gate_name ≢ None
  pub since : IsNotBefore o old opened
  pub rose : Rose (o.faults opened) (o.faults new)
  pub changed : Rose (o.changes opened) (o.changes new)

-- A change that stood ready couldn't be taken away: it was decided on and stood ready at a moment of this run, an actuator before its commit
-- wasn't run to its end, and since then only what staging writes was changed, and a call failed.
pub record IsLeftReady {F T : Type 0} (o : Outside F) (decides : Decision T → Type 0) (before now : List Carrier) (Ran : List Run → Type 0) (old new : F) : Type 0 where
  pub change : Change T
  pub decided : decides (decision.Change change)
  pub ready : F
  pub after : Image
  pub staged : IsStaged (map step_of change.steps.items) after (o.state ready)
  pub since : IsNotBefore o old ready
  pub given_up : IsGivenUp (map step_of change.steps.items) change.before.items change.after.items before now Ran
  pub kept : ChangesOnly o is_swept nowhere ready new
  pub rose : Rose (o.faults ready) (o.faults new)
