-- What an object of the outside means to proofs, and what each call on it says.
use Rattle.std.specs.Prelude.{◌≡◌, ◌⊎◌, ℕ, ◌+◌, ◌-◌, ◌^◌, ◌<◌, ◌≤◌, Bool, IsTrue, List, [], length, take, drop, Option, Some, None, unwrap_or, min}
use Rattle.ips_outside.specs.declared.outside.Look.{Look}
use Rattle.ips_outside.specs.declared.outside.Look.TheVariants as look
use Rattle.ips_outside.specs.Image.{Entry, Dir, File, Link, Other, IsImage, file_bytes}
use Rattle.ips_outside.specs.State.{State}

-- What a source of files, or a folder, means. Memory tells its image; a real file system doesn't.
pub record Outside (F : Type 0) : Type 1 where
  -- whether it tells its image
  pub tells : F → Bool
  -- what it holds, and what was touched
  pub state : F → State
  -- the moment, a number that never falls
  pub clock : F → ℕ
  -- the states at the moments from that one on
  pub states : F → ℕ → State → Type 0
  -- how often it failed
  pub faults : F → ℕ
  -- how often a call was made that may change something
  pub changes : F → ℕ

-- What holds of each such object.
pub record IsOutside {F : Type 0} (o : Outside F) : Type 0 where
  pub formed : (f : F) → IsTrue (o.tells f) → IsImage (o.state f).held
  -- since this moment there is no other
  pub only_now : (f : F) (s : State) → o.states f (o.clock f) s → s ≡ o.state f
  -- this moment is one of those since an earlier one
  pub counts_now : (f : F) (t : ℕ) → t ≤ o.clock f → o.states f t (o.state f)

-- one count more, up to the last value of its counter
abbrev pub risen : ℕ → ℕ
risen n = min (n + 1) (2 ^ 64 - 1)

-- A count rose, or stands at the last value of its counter.
abbrev pub Rose : ℕ → ℕ → Type 0
Rose before now = (before < now) ⊎ (2 ^ 64 ≤ now + 1)

-- A count of faults never falls. A failure is told only where it rose, and where nothing failed it stays.
pub record HasCause (before now : ℕ) (failure : Type 0) : Type 0 where
  pub later : before ≤ now
  pub rose : failure → Rose before now
  pub steady : (failure → ⊥) → now ≡ before

-- A count never falls, and rose where this is so.
pub record RoseWhere (before now : ℕ) (some : Type 0) : Type 0 where
  pub later : before ≤ now
  pub rose : some → Rose before now

-- One call more was counted.
pub record OneMore (before now : ℕ) : Type 0 where
  pub later : before ≤ now
  pub one : now ≡ risen before

-- Time goes on, and nothing is forgotten: the states since a moment are those from before the call, and the one after it.
pub record Elapses {F : Type 0} (o : Outside F) (old new : F) : Type 0 where
  pub later : o.clock old ≤ o.clock new
  pub nothing_else : (t : ℕ) (s : State) → t ≤ o.clock old → o.states new t s → o.states old t s ⊎ (s ≡ o.state new)
  pub remembers : (t : ℕ) (s : State) → t ≤ o.clock old → o.states old t s → o.states new t s

-- What each call says.
pub record IsCall {F : Type 0} (o : Outside F) (old new : F) (failure : Type 0) : Type 0 where
  pub same_kind : o.tells new ≡ o.tells old
  pub time : Elapses o old new
  pub cause : HasCause (o.faults old) (o.faults new) failure

-- A call that changes neither the image nor what was touched, whatever it answers. It isn't counted among those that may.
pub record Reads {F : Type 0} (o : Outside F) (old new : F) (failure : Type 0) : Type 0 where
  pub call : IsCall o old new failure
  pub kept : o.state new ≡ o.state old
  pub none_made : o.changes new ≡ o.changes old

-- what a look at an entry answers
abbrev pub look_of : Option Entry → Look
look_of (Some (Dir m f)) = look.Dir m
look_of (Some (File m b)) = look.File m (length b)
look_of (Some (Link g)) = look.Link
look_of (Some Other) = look.Other
look_of None = look.Absent

-- the mode that a look answers is one of permission bits
abbrev pub IsSmall : Look → Type 0
IsSmall look.Absent = Unit {0}
IsSmall (look.Dir mode) = mode < 4096
IsSmall (look.File mode size) = mode < 4096
IsSmall look.Link = Unit {0}
IsSmall look.Other = Unit {0}

-- the bytes that can be read at a path: none where no file stands
abbrev pub readable : Option Entry → List ℕ
readable e = unwrap_or (file_bytes e) []

-- A read of a file's bytes from a place on: these many of them stand at the buffer's front, at least one where the
-- buffer isn't empty and the file goes on there.
pub record IsRead (file : List ℕ) (place : ℕ) (buffer : List ℕ) (count : ℕ) : Type 0 where
  pub bytes : take count buffer ≡ take count (drop place file)
  pub within : count ≤ length (drop place file)
  pub some : 0 < length buffer → place < length file → 0 < count
