-- What a run that was stopped may have left at the updater's own names.
use Rattle.std.specs.Prelude.{◌≡◌, ◌≢◌, ◌⊎◌, ℕ, zero, suc, Bool, not, ◌&&◌, ◌||◌, IsTrue, IsFalse, List, [], ◌∷◌, None, is_some}
use Rattle.std.specs.List.{list_all, list_any}
use Rattle.ips_text.specs.Ancestry.{same_path, covers}
use Rattle.ips_outside.specs.Image.{Image}
use Rattle.ips_outside.specs.State.{State, ChangedWithin, IsSettled, settled}
use Rattle.ips_outside.specs.Outside.{Outside}
use Rattle.ips_steps.specs.Steps.{stage_name}
use Rattle.ips_steps.specs.Private.{journal_name, gate_name, mark_front, mark_name, begins, is_private, visible}
use Rattle.ips_rehearse.specs.Tried.{dir_name, Stood}
use Rattle.ips_rehearse.specs.Opening.{LeavesOpen}
use Rattle.ips_commit.specs.declared.found.Pending.{Pending}
use Rattle.ips_commit.specs.declared.found.Pending.TheVariants.{Nothing, Leftover, Open}

-- nothing stands at any of the updater's own names
abbrev pub IsBare : Image → Type 0
IsBare t = (q : List ℕ) → IsTrue (is_private q) → t.look q ≡ None

-- Something stands at one of them.
pub record HasLeftover (t : Image) : Type 0 where
  pub path : List ℕ
  pub is_own : IsTrue (is_private path)
  pub stands : t.look path ≢ None

-- What is pending: nothing stands at the updater's own names; or the gate is closed, and what a staging or a sweeping left
-- stands behind it; or something stands at the gate, so that the steps are to be laid.
abbrev pub IsPending : Image → Pending → Type 0
IsPending t Nothing = IsBare t
IsPending t Leftover = (t.look gate_name ≡ None) × HasLeftover t
IsPending t Open = t.look gate_name ≢ None

-- the path is at or below the stage or the journal, or begins as the names of marks do: what is written and swept behind a
-- closed gate
abbrev pub is_swept : List ℕ → Bool
is_swept q = covers stage_name q || (covers journal_name q || begins mark_front q)

-- Invisible changes alone: either nothing has happened yet; or a sync has made safe what was held, and since then only the
-- stage, the journal and marks were changed and touched, whole or in their modes.
abbrev pub IsBehindGate : State → State → Type 0
IsBehindGate old s = (s ≡ old) ⊎ ChangedWithin is_swept is_swept (settled old) s

-- no mark stands but these, and nothing below another
abbrev pub HasNoOtherMark : Image → List (List ℕ) → Type 0
HasNoOtherMark t marks = (q : List ℕ) → IsTrue (begins mark_front q) → IsFalse (list_any (λ m. covers m q) marks) → t.look q ≡ None

-- the names of so many marks, the last first
abbrev pub mark_names : ℕ → List (List ℕ)
mark_names zero = []
mark_names (suc count) = mark_name (suc count) ∷ mark_names count

-- the path is at or below one of these marks that isn't among the kept ones
abbrev pub is_other : List (List ℕ) → List (List ℕ) → List ℕ → Bool
is_other kept marks q = list_any (λ m. not (list_any (λ k. same_path k m) kept) && covers m q) marks

-- These are the marks of an image: each of them stands, and no other.
pub record AreMarkNames (t : Image) (marks : List (List ℕ)) : Type 0 where
  pub stand : IsTrue (list_all (λ m. is_some (t.look m)) marks)
  pub others : HasNoOtherMark t marks

-- The stage, the journal and these marks are taken away, and nothing is made.
pub record IsSwept (names : List (List ℕ)) (t u : Image) : Type 0 where
  pub stage : (q : List ℕ) → IsTrue (covers stage_name q) → u.look q ≡ None
  pub journal : (q : List ℕ) → IsTrue (covers journal_name q) → u.look q ≡ None
  pub marks : (q : List ℕ) → IsTrue (list_any (λ m. covers m q) names) → u.look q ≡ None
  pub nothing_new : (q : List ℕ) → t.look q ≡ None → u.look q ≡ None

-- At a moment of these calls the directory in which modes are tried was open, where one stood before: it had mode 0700.
abbrev pub WasOpened : {F : Type 0} → Outside F → F → F → Type 0
WasOpened o old new = Stood o old new (LeavesOpen dir_name (o.state old).held)

-- A change is done: this image is seen, nothing is left at the updater's own names, and nothing is touched.
pub record HasCommitted (a : Image) (s : State) : Type 0 where
  pub seen : visible s.held ≡ a
  pub bare : IsBare s.held
  pub safe : IsSettled s
