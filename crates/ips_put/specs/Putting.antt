-- Texts that are put at once.
use Rattle.std.specs.Prelude.{◌≡◌, ℕ, Bool, true, false, IsTrue, List, slice_get, Option, Some, None, IfSome, Result, Ok, Err, Vec}
use Rattle.ips_text.specs.declared.refusal.Or.{Or}
use Rattle.ips_text.specs.declared.refusal.Or.TheVariants.{Bad, OutOfMemory}
use Rattle.ips_outside.specs.Image.{Image}
use Rattle.ips_outside.specs.Outside.{Outside}
use Rattle.ips_folder.specs.Calls.{Throughout}
use Rattle.ips_steps.specs.Steps.{Step, Stage, all_laid}
use Rattle.ips_steps.specs.Private.{visible}
use Rattle.ips_steps.specs.Owed.{FolderOwes}
use Rattle.ips_journal.specs.Text.{journal_text}
use Rattle.ips_journal.specs.declared.staged.Staged.{Staged}
use Rattle.ips_journal.specs.declared.staged.Staged.TheVariants.{Payload, Bytes, Standing}
use Rattle.ips_commit.specs.Pending.{HasCommitted}
use Rattle.ips_contents.specs.declared.fault.StageFault.{StageFault}
use Rattle.ips_contents.specs.declared.fault.StageFault.TheVariants as stage
use Rattle.ips_commit.specs.declared.fault.CommitFault.{CommitFault}
use Rattle.ips_commit.specs.declared.fault.CommitFault.TheVariants as commit

-- what is to be put are bytes that were handed in
abbrev pub IsGiven : Staged → Type 0
IsGiven (Payload name) = ⊥
IsGiven (Bytes given) = Unit {0}
IsGiven (Standing path) = ⊥

-- so is all of the list
abbrev pub AreGiven : List Staged → Type 0
AreGiven staged = (n : ℕ) (s : Staged) → slice_get staged n ≡ Some s → IsGiven s

-- these bytes are to be put
abbrev pub HasBytes : Staged → Option (List ℕ) → Type 0
HasBytes (Payload name) bytes = ⊥
HasBytes (Bytes given) bytes = bytes ≡ Some given.items
HasBytes (Standing path) bytes = ⊥

-- The image that a change means: what is seen of another once its steps are laid with the bytes that were handed in.
pub record IsMeant (steps : List Step) (staged : List Staged) (t a : Image) : Type 0 where
  pub contents : Stage
  pub are : (n : ℕ) (s : Staged) → slice_get staged n ≡ Some s → HasBytes s (contents n)
  pub is : a ≡ visible (all_laid contents steps t)

-- At each moment the image that was seen is owed, or one that is meant, if there is one; and that one is reached where it is done.
pub record Puts {F : Type 0} (o : Outside F) (Means : Image → Type 0) (is_done : Bool) (old new : F) : Type 0 where
  pub after : Option Image
  pub is_meant : IfSome after Means
  pub owed : Throughout o old new (FolderOwes journal_text (visible (o.state old).held) after false)
  pub done : IsTrue is_done → (a : Image) × (after ≡ Some a) × HasCommitted a (o.state new)

-- it was answered that all is done
abbrev pub is_done : {T E : Type 0} → Result T E → Bool
is_done (Ok x) = true
is_done (Err e) = false

-- why nothing is put, where it isn't staged
abbrev pub unstaged_as : Or StageFault → Or CommitFault
unstaged_as (Bad stage.FolderFault) = Bad commit.Unchanged
unstaged_as (Bad stage.SourceFault) = Bad commit.Unchanged
unstaged_as (Bad (stage.Payload name why)) = Bad commit.Unchanged
unstaged_as OutOfMemory = OutOfMemory

-- it was answered that nothing is put: a call failed before that of the gate, or memory was refused
abbrev pub IsUnput : {T : Type 0} → Result T (Or CommitFault) → Type 0
IsUnput (Ok x) = ⊥
IsUnput (Err (Bad commit.Unchanged)) = Unit {0}
IsUnput (Err (Bad commit.Unfinished)) = ⊥
IsUnput (Err (Bad (commit.BadJournal line))) = ⊥
IsUnput (Err OutOfMemory) = Unit {0}

-- Nothing is put: what is seen is as it was, and at no moment another image is owed.
pub record PutsNothing {F : Type 0} (o : Outside F) (old new : F) : Type 0 where
  pub owed : Throughout o old new (FolderOwes journal_text (visible (o.state old).held) None false)
  pub seen : visible (o.state new).held ≡ visible (o.state old).held
