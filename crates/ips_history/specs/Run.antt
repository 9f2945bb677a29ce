-- What a run says of the image, by its outcome.
use Rattle.std.specs.Prelude.{◌≡◌, ◌≢◌, ◌⊎◌, ℕ, ◌≤◌, Bool, IsTrue, IsFalse, List, length, take, Option, Some, None, IfSome, is_some}
use Rattle.ips_outside.specs.Image.{Image}
use Rattle.ips_outside.specs.State.{IsSettled, settled}
use Rattle.ips_outside.specs.Outside.{Outside, OneMore}
use Rattle.ips_folder.specs.Calls.{Throughout}
use Rattle.ips_steps.specs.Steps.{Step}
use Rattle.ips_steps.specs.Private.{gate_name, visible}
use Rattle.ips_steps.specs.Owed.{FolderOwes, steps_left}
use Rattle.ips_kinds.specs.Tallies.{Carrier, all_counted}
use Rattle.ips_journal.specs.Text.{journal_text}
use Rattle.ips_commit.specs.Pending.{IsBare}
use Rattle.ips_commit.specs.Recovering.{IsJournalled, CanRollForward, CanResume, IsUnfinished}
use Rattle.ips_history.specs.Due.{HasEnded}
use Rattle.ips_history.specs.Directories.{creates, fixes, with_directories}
use Rattle.ips_history.specs.Transition.{StillOwes, CreatingInPart, Transition}
use Rattle.ips_history.specs.declared.effect.Effect.{Effect}

-- What an outcome claims of the image: that a request has come to its end; that what is seen is as before; that nothing is to
-- do; that what was stopped is brought to its end, forward or back; that a change is left unfinished; that the journal is bad; that
-- memory ran out; or that a call failed, with nothing left unfinished.
pub record Claim : Type 0 where
  pub done : Bool
  pub refused : Bool
  pub nothing : Bool
  pub recovered : Option Bool
  pub unfinished : Bool
  pub bad_journal : Bool
  pub out_of_memory : Bool
  pub failed : Bool

-- What was stopped is brought to its end: what is owed stays owed, nothing stands at the updater's own names any more, and
-- nothing is touched. It went forward where something stood at the gate, to the image that was owed as the new one, and laid
-- just the steps that the marks left; else what is seen is as before, and nothing was laid.
pub record IsRecovered {F : Type 0} (o : Outside F) (forward : Bool) (before now : List Carrier) (old new : F) : Type 0 where
  pub still : StillOwes o old new
  pub bare : IsBare (o.state new).held
  pub safe : IsSettled (o.state new)
  pub is : forward ≡ is_some ((o.state old).held.look gate_name)
  pub on : IsTrue forward → (b a : Image) (due : Bool) → FolderOwes journal_text b (Some a) due (o.state old) → HasEnded (Some a) (o.state new)
  pub laid : IsTrue forward → (steps : List Step) × (count : ℕ) × CanRollForward (o.state old).held steps count × (now ≡ all_counted (steps_left count steps) before)
  pub back : IsFalse forward → visible (o.state new).held ≡ visible (o.state old).held
  pub unlaid : IsFalse forward → now ≡ before

-- A change is left unfinished. Where the gate was closed as the run began, some of the change's steps are laid and counted, and
-- whatever a crash leaves now, a recovery lays no more than a thousand of them again. Where it was open, so it is of the steps
-- that the journal and the marks left.
pub record IsLeft {F : Type 0} (o : Outside F) (before now : List Carrier) (old new : F) : Type 0 where
  pub begun : (o.state old).held.look gate_name ≡ None
      → (steps : List Step) × (laid : ℕ) × (laid ≤ length steps) × (now ≡ all_counted (take laid steps) before) × CanResume (o.state new) 0 laid
  pub again : (o.state old).held.look gate_name ≢ None
      → (steps : List Step) (count : ℕ) → IsJournalled (o.state old).held steps count → IsUnfinished (o.state old).held (o.state new) steps count before now

-- at every moment nothing stands at the gate
abbrev pub StaysShut : {F : Type 0} → Outside F → F → F → Type 0
StaysShut o old new = Throughout o old new (λ s. s.held.look gate_name ≡ None)

-- The opening sync has answered: it is the first call that may change something, and makes safe all that was touched; until
-- then nothing has happened to the image, or that alone.
pub record HasOpened {F : Type 0} (o : Outside F) (old new : F) : Type 0 where
  pub at : F
  pub synced : o.state at ≡ settled (o.state old)
  pub until : Throughout o old at (λ s. (s ≡ o.state old) ⊎ (s ≡ settled (o.state old)))
  pub one : OneMore (o.changes old) (o.changes at)
  pub later : o.changes at ≤ o.changes new

-- what a refusal of a command that makes an image may leave: just the directories of the records, where nothing stood at them;
-- or, where a call failed before they were safe, anything at or below the first of them
abbrev pub LeavesDirectories : {F : Type 0} → Outside F → Bool → F → F → Type 0
LeavesDirectories o failed old new = (visible (o.state new).held ≡ visible (with_directories (o.state old).held)) ⊎ (IsTrue failed × CreatingInPart o old new)

-- A run: what it does to what is owed; what it recovered; an outcome that refuses leaves what is seen as before, and a closed gate
-- closed, but for the directories of the records that a command makes which makes an image; nothing is to do only behind a closed
-- gate, and for a command that recovers only where nothing is left; the journal is never bad where something is owed; memory
-- runs out only where nothing but the opening sync has happened, or before the gate's call; what is left unfinished can be
-- resumed; and unless the opening sync failed, with nothing changed, it has answered.
pub record IsRun {F : Type 0} (o : Outside F) (means : Image → Image → Type 0) (effect : Effect) (claim : Claim) (before now : List Carrier) (old new : F) : Type 0 where
  pub transition : Transition o means effect claim.done old new
  pub recovered : IfSome claim.recovered (λ forward. IsRecovered o forward before now old new)
  pub unseen : IsTrue claim.refused → (visible (o.state new).held ≡ visible (o.state old).held) ⊎ (IsTrue (creates effect) × LeavesDirectories o claim.failed old new)
  pub unopened : IsTrue claim.refused → (o.state old).held.look gate_name ≡ None → StaysShut o old new ⊎ (IsTrue (creates effect) × (IsTrue claim.failed × CreatingInPart o old new))
  pub unneeded : IsTrue claim.nothing → ((o.state old).held.look gate_name ≡ None) × (IsTrue (fixes effect) → IsBare (o.state old).held)
  pub readable : IsTrue claim.bad_journal → (b : Image) (a : Option Image) (due : Bool) → FolderOwes journal_text b a due (o.state old) → ⊥
  pub out_of_memory : IsTrue claim.out_of_memory → (o.state new ≡ settled (o.state old)) ⊎ StaysShut o old new
  pub resumes : IsTrue claim.unfinished → IsLeft o before now old new
  pub opened : (IsTrue claim.failed × (o.state new ≡ o.state old)) ⊎ HasOpened o old new
