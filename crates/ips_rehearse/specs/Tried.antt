-- Where calls are tried, and what is left of them.
use Rattle.std.specs.Prelude.{◌≡◌, ℕ, ◌≤◌, Bool, false, IsTrue, List, [], ◌∷◌, ◌++◌, get_or, Some, None, Result, Ok, Err}
use lib.Chars.{codes}
use Rattle.ips_text.specs.Ancestry.{covers, is_below}
use Rattle.ips_text.specs.declared.refusal.Or.{Or}
use Rattle.ips_text.specs.declared.refusal.Or.TheVariants.{Bad, OutOfMemory}
use Rattle.ips_outside.specs.Image.{Image, Dir, File, Link, is_dir, is_file}
use Rattle.ips_outside.specs.Change.{joined}
use Rattle.ips_outside.specs.State.{State}
use Rattle.ips_outside.specs.Outside.{Outside, HasCause}
use Rattle.ips_folder.specs.Calls.{Throughout}

-- the directory in which calls are tried
unfoldable pub try_name : List ℕ
try_name = codes "var/pkg/stage/try"

-- a name in that directory
abbrev pub in_try : List ℕ → List ℕ
in_try name = try_name ++ 47 ∷ name

-- where a directory of a mode is tried
unfoldable pub dir_name : List ℕ
dir_name = codes "var/pkg/stage/try/dir"

-- the directory in that one
unfoldable pub inner_dir_name : List ℕ
inner_dir_name = codes "var/pkg/stage/try/dir/dir"

-- and the file in it
unfoldable pub inner_file_name : List ℕ
inner_file_name = codes "var/pkg/stage/try/dir/file"

-- where a file of a mode is tried
unfoldable pub file_name : List ℕ
file_name = codes "var/pkg/stage/try/file"

-- where a symbolic link, or a further name of a file, is tried
unfoldable pub link_name : List ℕ
link_name = codes "var/pkg/stage/try/link"

-- nothing stands at or below the path
abbrev pub IsGone : List ℕ → Image → Type 0
IsGone p t = (q : List ℕ) → IsTrue (covers p q) → t.look q ≡ None

-- The directory stands, and nothing stands in it.
pub record IsEmptyDir (dir : List ℕ) (t : Image) : Type 0 where
  pub stands : IsTrue (is_dir (t.look dir))
  pub empty : (q : List ℕ) → IsTrue (is_below dir q) → t.look q ≡ None

-- the answer is a fault, and not that memory ran out
abbrev pub IsFailure : {T E : Type 0} → Result T (Or E) → Type 0
IsFailure (Ok x) = ⊥
IsFailure (Err (Bad fault)) = Unit {0}
IsFailure (Err OutOfMemory) = ⊥

-- the mode is one of these
abbrev pub in_modes : List Bool → ℕ → Bool
in_modes modes m = get_or modes m false

-- each mode of the first is one of the second
abbrev pub KeepsModes : List Bool → List Bool → Type 0
KeepsModes old new = (m : ℕ) → IsTrue (in_modes old m) → IsTrue (in_modes new m)

-- Calls of which one may have failed: a fault is told just where one did.
pub record Calls {F : Type 0} (o : Outside F) (old new : F) (failure : Type 0) : Type 0 where
  pub cause : HasCause (o.faults old) (o.faults new) failure
  pub same_kind : o.tells new ≡ o.tells old
  pub changes : o.changes old ≤ o.changes new

-- ---- what was tried

-- A run of calls goes from one moment to another: time goes on, and nothing is forgotten.
pub record Passed {F : Type 0} (o : Outside F) (old new : F) : Type 0 where
  pub later : o.clock old ≤ o.clock new
  pub remembers : (t : ℕ) (s : State) → t ≤ o.clock old → o.states old t s → o.states new t s

-- At a moment of the run this was so of the image.
pub record Stood {F : Type 0} (o : Outside F) (old new : F) (P : Image → Type 0) : Type 0 where
  pub at : F
  pub since : Passed o old at
  pub until : Passed o at new
  pub held : P (o.state at).held

-- A directory of the mode stands where directories are tried.
abbrev pub IsDirOf : ℕ → Image → Type 0
IsDirOf m t = t.look dir_name ≡ Some (Dir m false)

-- A file of the mode stands where files are tried.
abbrev pub IsFileOf : ℕ → Image → Type 0
IsFileOf m t = t.look file_name ≡ Some (File m [])

-- A symbolic link to the target stands where links are tried.
abbrev pub IsLinkTo : List ℕ → Image → Type 0
IsLinkTo target t = t.look link_name ≡ Some (Link target)

-- The file at the path was given a further name, where links are tried.
pub record IsNamed (to : List ℕ) (t : Image) : Type 0 where
  pub before : Image
  pub file : IsTrue (is_file (before.look to))
  pub named : t ≡ joined link_name to before

-- A directory of the mode stands where directories are tried, with a directory and a file in it.
pub record IsBusy (m : ℕ) (t : Image) : Type 0 where
  pub dir : IsDirOf m t
  pub inner_dir : IsTrue (is_dir (t.look inner_dir_name))
  pub inner_file : IsTrue (is_file (t.look inner_file_name))

-- It stands there with nothing in it.
pub record IsIdle (m : ℕ) (t : Image) : Type 0 where
  pub dir : IsDirOf m t
  pub empty : IsEmptyDir dir_name t

-- In a directory of the mode a directory and a file were made and then, while it had that mode, taken away.
pub record WasWorked {F : Type 0} (o : Outside F) (m : ℕ) (old new : F) : Type 0 where
  pub at : F
  pub since : Passed o old at
  pub busy : IsBusy m (o.state at).held
  pub then : Stood o at new (IsIdle m)
  pub still : Throughout o at then.at (λ s. IsDirOf m s.held)
