-- What can be staged, and what then stands ready.
use Rattle.std.specs.Prelude.{◌≡◌, ◌⊎◌, ℕ, ◌<◌, Bool, false, IsTrue, List, length, Some, None, is_some}
use Rattle.ips_outside.specs.Image.{Image, Dir, is_dir, file_bytes}
use Rattle.ips_outside.specs.Change.{with_entry_at}
use Rattle.ips_outside.specs.State.{State, IsSettled}
use Rattle.ips_steps.specs.Steps.{Step, Stage, stage_name, stage_of, all_laid, possible, sound}
use Rattle.ips_steps.specs.Private.{records_name, journal_name, gate_name, mark_front, begins, visible}
use Rattle.ips_steps.specs.Owed.{IsReady}
use Rattle.ips_journal.specs.Text.{journal_text}
use Rattle.ips_journal.specs.Reading.{puts_in}
use Rattle.ips_journal.specs.declared.staged.Staged.{Staged}
use Rattle.ips_text.specs.declared.refusal.Or.{Or}
use Rattle.ips_text.specs.declared.refusal.Or.TheVariants.{Bad, OutOfMemory}
use Rattle.ips_commit.specs.Pending.{is_swept}
use Rattle.ips_contents.specs.Contents.{StagedContents, AreStanding, AreAlone, HaveModes, HoldsOnly}
use Rattle.ips_contents.specs.declared.fault.StageFault.{StageFault}
use Rattle.ips_contents.specs.declared.fault.StageFault.TheVariants as stage

-- What can be staged on an image: a sound list of steps, with one content for each `put`. It is possible whatever bytes these
-- have. Contents that are taken from the image are files there. `var/pkg` stands, and the gate is closed.
pub record CanStage (steps : List Step) (staged : List Staged) (t : Image) : Type 0 where
  pub is_sound : IsTrue (sound steps)
  pub counted : puts_in steps ≡ length staged
  pub standing : AreStanding t staged
  pub can : (contents : Stage) → ((n : ℕ) → n < length staged → IsTrue (is_some (contents n))) → IsTrue (possible contents steps t)
  pub records : IsTrue (is_dir (t.look records_name))
  pub shut : t.look gate_name ≡ None

-- Such a list is staged, and means this image: nothing is touched, the gate is closed, no mark stands, and all is ready.
pub record IsStaged (steps : List Step) (a : Image) (s : State) : Type 0 where
  pub safe : IsSettled s
  pub shut : s.held.look gate_name ≡ None
  pub unmarked : (q : List ℕ) → IsTrue (begins mark_front q) → s.held.look q ≡ None
  pub ready : IsReady journal_text steps 0 a s.held

-- no list of steps stands ready and safe, with nothing touched
abbrev pub NothingReady : State → Type 0
NothingReady s = (steps : List Step) (a : Image) → IsStaged steps a s → ⊥

-- nothing stands ready and safe, unless the image is the one from before
abbrev pub NoMoreReady : State → State → Type 0
NoMoreReady old new = NothingReady new ⊎ (new.held ≡ old.held)

-- The list was staged with the contents that were to be staged. It means what is seen once it is laid with these on the
-- image that was held before. Each content has the mode of the step that puts it. Nobody else may enter the stage.
pub record HasStaged (tells : Bool) (repository : Image) (publisher : List ℕ) (steps : List Step) (staged : List Staged) (t : Image) (s : State) : Type 0 where
  pub contents : Stage
  pub are : StagedContents tells repository publisher t staged contents
  pub modes : HaveModes steps s.held
  pub stage : s.held.look stage_name ≡ Some (Dir 448 false)
  pub only : HoldsOnly (length staged) s.held
  pub is : IsStaged steps (visible (all_laid contents steps t)) s

-- nothing stands where staging writes
abbrev pub IsCleared : Image → Type 0
IsCleared t = (q : List ℕ) → IsTrue (is_swept q) → t.look q ≡ None

-- What a refusal leaves where staging writes: nothing. Where memory ran out it may be that nothing was written; then the image is
-- the one from before. Where a call on the folder failed, what was staged may be left.
abbrev pub LeavesNothing : Image → Image → Or StageFault → Type 0
LeavesNothing old new (Bad (stage.Payload name fault)) = IsCleared new
LeavesNothing old new (Bad stage.SourceFault) = IsCleared new
LeavesNothing old new (Bad stage.FolderFault) = Unit {0}
LeavesNothing old new OutOfMemory = IsCleared new ⊎ (new ≡ old)

-- The contents and the journal of these steps are written, and nothing is touched. Each content has the mode of the step that
-- puts it and, leaving the journal aside, no further name.
pub record IsFilled (tells : Bool) (repository : Image) (publisher : List ℕ) (steps : List Step) (staged : List Staged) (t : Image) (s : State) : Type 0 where
  pub safe : IsSettled s
  pub journal : file_bytes (s.held.look journal_name) ≡ Some (journal_text steps)
  pub stage : s.held.look stage_name ≡ Some (Dir 448 false)
  pub only : HoldsOnly (length staged) s.held
  pub contents : StagedContents tells repository publisher t staged (stage_of s.held)
  pub modes : HaveModes steps s.held
  pub alone : AreAlone (with_entry_at journal_name None s.held)
  pub unmarked : (q : List ℕ) → IsTrue (begins mark_front q) → s.held.look q ≡ None
