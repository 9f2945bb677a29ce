-- What a folder owes: the image before a request, or the one that the request means.
use Rattle.std.specs.Prelude.{◌≡◌, ◌≢◌, ℕ, ◌+◌, ◌*◌, ◌<◌, Bool, false, IsTrue, List, drop, Option, Some, None}
use Rattle.ips_outside.specs.Image.{Image, file_bytes}
use Rattle.ips_outside.specs.State.{State, MayLeave}
use Rattle.ips_steps.specs.Steps.{Step, after, feasible, sound}
use Rattle.ips_steps.specs.Private.{journal_name, gate_name, mark_name, is_private, visible}
use Rattle.ips_steps.specs.Journal.{IsJournal}

-- This number of marks stands: the first of them without a gap, and not the next.
pub record AreMarks (t : Image) (count : ℕ) : Type 0 where
  pub stand : (i : ℕ) → i < count → t.look (mark_name (i + 1)) ≢ None
  pub last : t.look (mark_name (count + 1)) ≡ None

-- What is left of the journal behind so many marks (checkpoints): the steps without the first 1,000 of each.
abbrev pub steps_left : ℕ → List Step → List Step
steps_left marks steps = drop (1000 * marks) steps

-- Redo is ready: the journal lists this sound list of steps, so many marks (checkpoints) stand, and the steps behind these can
-- be laid. Laid, they make this image the one that is seen.
pub record IsReady (text : List Step → List ℕ) (steps : List Step) (marks : ℕ) (a : Image) (t : Image) : Type 0 where
  pub lists : IsJournal steps
  pub is_sound : IsTrue (sound steps)
  pub journal : file_bytes (t.look journal_name) ≡ Some (text steps)
  pub marked : AreMarks t marks
  pub can : IsTrue (feasible (steps_left marks steps) t)
  pub means : visible (after (steps_left marks steps) t) ≡ a

-- It is ready, and something stands at the gate.
pub record IsOpen (text : List Step → List ℕ) (steps : List Step) (marks : ℕ) (a : Image) (t : Image) : Type 0 where
  pub gate : t.look gate_name ≢ None
  pub ready : IsReady text steps marks a t

-- Atomicity of one image, with the old image, the new one, and whether it is due. Gate closed: the new image is seen, or,
-- where it isn't due, the old one. Gate open: the journal's steps that are left lead to the new one.
pub data Owes (text : List Step → List ℕ) : Image → Option Image → Bool → Image → Type 0 where
  Old : {b : Image} {a : Option Image} {t : Image} → t.look gate_name ≡ None → visible t ≡ b → Owes text b a false t
  Open : {b : Image} {a : Image} {due : Bool} {t : Image} (steps : List Step) (marks : ℕ) → IsOpen text steps marks a t → Owes text b (Some a) due t
  New : {b : Image} {a : Image} {due : Bool} {t : Image} → t.look gate_name ≡ None → visible t ≡ a → Owes text b (Some a) due t

-- The crash invariant: the image that the folder holds is owed as `Owes` says, and so is each that a crash now may leave.
pub record FolderOwes (text : List Step → List ℕ) (b : Image) (a : Option Image) (due : Bool) (s : State) : Type 0 where
  pub now : Owes text b a due s.held
  pub left : (c : Image) → MayLeave s c → Owes text b a due c

-- Only private names are touched, whole or in their modes.
pub record IsPrivate (s : State) : Type 0 where
  pub whole : (q : List ℕ) → IsTrue (s.whole q) → IsTrue (is_private q)
  pub modes : (q : List ℕ) → IsTrue (s.modes q) → IsTrue (is_private q)
