-- What a run does to what the folder owes.
use Rattle.std.specs.Prelude.{◌≡◌, ◌≢◌, ◌⊎◌, ℕ, ◌≤◌, Bool, false, IsTrue, IsFalse, List, Option, None, IfSome}
use Rattle.ips_text.specs.Ancestry.{covers}
use Rattle.ips_outside.specs.Image.{Image}
use Rattle.ips_outside.specs.State.{State, IsSettled, ChangedWithin, nowhere, settled, untouched}
use Rattle.ips_outside.specs.Outside.{Outside}
use Rattle.ips_folder.specs.Calls.{Throughout}
use Rattle.ips_steps.specs.Private.{records_name, gate_name, visible}
use Rattle.ips_steps.specs.Owed.{FolderOwes}
use Rattle.ips_journal.specs.Text.{journal_text}
use Rattle.ips_history.specs.Due.{DueOnceMeant, HasEnded}
use Rattle.ips_history.specs.Directories.{shows, creates, var_name, with_directories, image_for}
use Rattle.ips_history.specs.declared.effect.Effect.{Effect}

-- whatever is owed as a run of calls begins is owed at every moment of it
abbrev pub StillOwes : {F : Type 0} → Outside F → F → F → Type 0
StillOwes o old new = (b : Image) (a : Option Image) (due : Bool) → FolderOwes journal_text b a due (o.state old) → Throughout o old new (FolderOwes journal_text b a due)

-- why a run is no request: nothing has happened, as where the opening sync failed; or something stands at the gate; or the
-- command only shows
abbrev pub IsNoRequest : {F : Type 0} → Outside F → Effect → F → F → Type 0
IsNoRequest o effect old new = (o.state new ≡ o.state old) ⊎ (((o.state old).held.look gate_name ≢ None) ⊎ IsTrue (shows effect))

-- From this moment on a run is a request. Nothing is touched and the gate is closed. What is seen is the image before it. At
-- every moment that is owed, or an image that the request means; the latter is due once the gate is safely open, and is
-- reached where the request has its end.
pub record IsRequestRun {F : Type 0} (o : Outside F) (means : Image → Image → Type 0) (is_done : Bool) (at new : F) : Type 0 where
  pub safe : IsSettled (o.state at)
  pub shut : (o.state at).held.look gate_name ≡ None
  pub after : Option Image
  pub is_meant : IfSome after (means (visible (o.state at).held))
  pub owed : Throughout o at new (FolderOwes journal_text (visible (o.state at).held) after false)
  pub due : DueOnceMeant o (visible (o.state at).held) after at new
  pub done : IsTrue is_done → HasEnded after (o.state new)

-- The directories of an image's records are made. The opening sync has answered, and until then what was owed stays owed. Since
-- then only what is at or below the first of them, at which nothing stood, is changed and touched.
pub record Creating {F : Type 0} (o : Outside F) (old new : F) : Type 0 where
  pub from : F
  pub later : o.clock old ≤ o.clock from
  pub synced : o.state from ≡ settled (o.state old)
  pub still : StillOwes o old from
  pub dir : List ℕ
  pub is : (dir ≡ var_name) ⊎ (dir ≡ records_name)
  pub absent : (o.state old).held.look dir ≡ None
  pub moments : Throughout o from new (ChangedWithin (covers dir) nowhere (o.state from))

-- what is made at the path isn't safe yet: nothing is made since that state, or what is made could be lost in a crash
abbrev pub IsNotYetSafe : List ℕ → State → State → Type 0
IsNotYetSafe dir old s = (s ≡ old) ⊎ IsTrue (s.whole dir)

-- The directories are made in part: at no moment since the opening sync the first of them stands and is safe.
pub record CreatingInPart {F : Type 0} (o : Outside F) (old new : F) : Type 0 where
  pub creating : Creating o old new
  pub moments : Throughout o creating.from new (IsNotYetSafe creating.dir (o.state creating.from))

-- What a run does to what the folder owes. It is no request, and what was owed stays owed. Or that holds until the opening sync has
-- answered, and from then on the run is a request. Or it makes directories of the records, of which a crash may leave anything,
-- and is a request once these are made safe; or it isn't, since none of them was made safe.
pub data Transition {F : Type 0} (o : Outside F) (means : Image → Image → Type 0) (effect : Effect) (is_done : Bool) (old new : F) : Type 0 where
  Kept : IsFalse is_done → IsNoRequest o effect old new → StillOwes o old new → Transition o means effect is_done old new
  Asked : (at : F) → o.clock old ≤ o.clock at → IsFalse (shows effect) → o.state at ≡ settled (o.state old) → (IsTrue is_done → image_for effect (o.state old).held ≡ (o.state old).held)
      → StillOwes o old at → IsRequestRun o means is_done at new → Transition o means effect is_done old new
  Created : (at : F) → IsTrue (creates effect) → Creating o old at → o.state at ≡ untouched (with_directories (o.state old).held)
      → IsRequestRun o means is_done at new → Transition o means effect is_done old new
  CreatedInPart : IsTrue (creates effect) → IsFalse is_done → CreatingInPart o old new → Transition o means effect is_done old new
