-- What the calls on a folder say, and runs of them.
use Rattle.std.specs.Prelude.{◌≡◌, ◌⊎◌, ℕ, ◌≤◌, Bool, true, false, ◌||◌, IsTrue, List, Option, Some, None, Result, IsErr, OnOk, OnErr}
use Rattle.ips_outside.specs.Image.{Entry, Dir, File, Link, Other, Image, is_file, is_dir, has_parent}
use Rattle.ips_outside.specs.State.{State, MayChange, ChangedWithin, settled}
use Rattle.ips_outside.specs.Outside.{Outside, IsCall, OneMore}

-- A call that writes: at `Ok` the folder has this state. Whatever it answers, nothing, or these paths and modes alone
-- are changed and touched, and it is counted as one that may change something.
pub record Writes {F T E : Type 0} (o : Outside F) (free loose : List ℕ → Bool) (to : State) (old new : F) (result : Result T E) : Type 0 where
  pub call : IsCall o old new (IsErr result)
  pub done : IsTrue (o.tells old) → OnOk result (o.state new ≡ to)
  pub only : IsTrue (o.tells old) → MayChange free loose (o.state old) (o.state new)
  pub one_made : OneMore (o.changes old) (o.changes new)

-- A sync: at `Ok` the same image is held and nothing is touched any more; at `Err` nothing has changed. It is counted as
-- a call that may change something.
pub record Syncs {F T E : Type 0} (o : Outside F) (old new : F) (result : Result T E) : Type 0 where
  pub call : IsCall o old new (IsErr result)
  pub done : IsTrue (o.tells old) → OnOk result (o.state new ≡ settled (o.state old))
  pub kept : OnErr result (o.state new ≡ o.state old)
  pub one_made : OneMore (o.changes old) (o.changes new)

-- Nothing stands at the path, and its parent is a directory.
pub record CanMake (t : Image) (p : List ℕ) : Type 0 where
  pub absent : t.look p ≡ None
  pub parent : IsTrue (has_parent t p)

-- A file with one name.
pub record IsSole (t : Image) (p : List ℕ) : Type 0 where
  pub file : IsTrue (is_file (t.look p))
  pub sole : (q : List ℕ) → IsTrue (t.same p q) → q ≡ p

-- a symbolic link stands there
abbrev pub is_link : Option Entry → Bool
is_link (Some (Dir m f)) = false
is_link (Some (File m b)) = false
is_link (Some (Link g)) = true
is_link (Some Other) = false
is_link None = false

-- What stands there has a mode.
abbrev pub has_mode : Option Entry → Bool
has_mode e = is_dir e || is_file e

-- Each state since a run of calls began has P.
pub record Throughout {F : Type 0} (o : Outside F) (old new : F) (P : State → Type 0) : Type 0 where
  pub later : o.clock old ≤ o.clock new
  pub each : (s : State) → o.states new (o.clock old) s → P s
  -- for a run that began earlier
  pub before : (t : ℕ) (s : State) → t ≤ o.clock old → o.states new t s → o.states old t s ⊎ P s

-- A run of calls: at every moment since it began, and now, these paths and modes alone are changed and touched.
pub record ChangesOnly {F : Type 0} (o : Outside F) (free loose : List ℕ → Bool) (old new : F) : Type 0 where
  pub moments : Throughout o old new (ChangedWithin free loose (o.state old))
  pub now : ChangedWithin free loose (o.state old) (o.state new)
