-- What calls leave of a folder that keeps a record of them.
use Rattle.std.specs.Prelude.{◌≡◌, ℕ, ◌+◌, ◌<◌, ◌≤◌, Bool, true, false, IsTrue, List, [], ◌∷◌, length, take, drop, Option, None, Some}
use Rattle.std.specs.List.{list_all}
use Rattle.std.specs.Coded.{×_prop, Unit-prop}
use Rattle.std.proofs.Props.{props}
use Rattle.ips_outside.specs.Image.{Image, Dir, File, Link, is_file}
use Rattle.ips_outside.specs.Change.{with_entry_at, joined, moded, appended}
use Rattle.ips_outside.specs.State.{State, untouched, written, mode_set}
use Rattle.ips_folder.specs.Calls.{CanMake, IsSole, has_mode}
use Rattle.ips_folder.specs.declared.call.Call.{Call}
use Rattle.ips_folder.specs.declared.call.Call.TheVariants as call

-- One moment: what is held and touched, what was held at the last sync, what is held but with mode 0 wherever a mode was
-- set since then, and the names touched since then, the last first.
pub record Moment : Type 0 where
  pub state : State
  pub safe : Image
  pub zeroed : Image
  pub touched : List (List ℕ)

-- this image, with nothing touched
abbrev pub begun : Image → Moment
begun t = record { state = untouched t; safe = t; zeroed = t; touched = [] }

-- with a change at the path, which is touched
abbrev pub changed : List ℕ → (Image → Image) → Moment → Moment
changed p change m = record {
  state = written p (change m.state.held) m.state;
  safe = m.safe;
  zeroed = change m.zeroed;
  touched = p ∷ m.touched;
}

-- with a directory at the path
abbrev pub dir_made : List ℕ → ℕ → Moment → Moment
dir_made p mode = changed p (with_entry_at p (Some (Dir mode false)))

-- with an empty file of mode 0600 at the path
abbrev pub file_made : List ℕ → Moment → Moment
file_made p = changed p (with_entry_at p (Some (File 384 [])))

-- with these bytes at the end of the file at the path
abbrev pub bytes_appended : List ℕ → List ℕ → Moment → Moment
bytes_appended p bytes = changed p (appended p bytes)

-- with a symbolic link at the path
abbrev pub link_made : List ℕ → List ℕ → Moment → Moment
link_made p target = changed p (with_entry_at p (Some (Link target)))

-- with the file of the second path under the first too
abbrev pub hard_made : List ℕ → List ℕ → Moment → Moment
hard_made p to = changed p (joined p to)

-- with nothing at and below the path
abbrev pub removed : List ℕ → Moment → Moment
removed p = changed p (with_entry_at p None)

-- with another mode at the path, where the mode alone is touched
abbrev pub mode_given : ℕ → List ℕ → Moment → Moment
mode_given mode p m = record {
  state = mode_set mode p m.state;
  safe = m.safe;
  zeroed = moded 0 p m.zeroed;
  touched = m.touched;
}

-- what one call makes of a moment, where it has its whole effect
abbrev pub effect : Call → Moment → Moment
effect (call.MakeDir path mode) m = dir_made path.bytes mode m
effect (call.MakeFile path) m = file_made path.bytes m
effect (call.Append path bytes) m = bytes_appended path.bytes bytes.items m
effect (call.MakeLink path target) m = link_made path.bytes target.items m
effect (call.MakeHard path to) m = hard_made path.bytes to.bytes m
effect (call.Remove path) m = removed path.bytes m
effect (call.SetMode path mode) m = mode_given mode path.bytes m
effect call.Sync m = begun m.state.held

-- what calls make of it, one after another
abbrev pub replay : List Call → Moment → Moment
replay [] m = m
replay (c ∷ calls) m = replay calls (effect c m)

-- the name that a call touches
abbrev pub name_of : Call → Option (List ℕ)
name_of (call.MakeDir path mode) = Some path.bytes
name_of (call.MakeFile path) = Some path.bytes
name_of (call.Append path bytes) = Some path.bytes
name_of (call.MakeLink path target) = Some path.bytes
name_of (call.MakeHard path to) = Some path.bytes
name_of (call.Remove path) = Some path.bytes
name_of (call.SetMode path mode) = None
name_of call.Sync = None

-- the call with mode 0 in place of the mode that it sets
abbrev pub zeroing : Call → Call
zeroing (call.MakeDir path mode) = call.MakeDir path mode
zeroing (call.MakeFile path) = call.MakeFile path
zeroing (call.Append path bytes) = call.Append path bytes
zeroing (call.MakeLink path target) = call.MakeLink path target
zeroing (call.MakeHard path to) = call.MakeHard path to
zeroing (call.Remove path) = call.Remove path
zeroing (call.SetMode path mode) = call.SetMode path 0
zeroing call.Sync = call.Sync

-- what one call makes of a tree
abbrev pub change_of : Call → Image → Image
change_of c t = (effect c (begun t)).state.held

-- what a call asks of the image
abbrev pub CanDo : Call → Image → Type 0
CanDo (call.MakeDir path mode) t = CanMake t path.bytes × (mode < 4096)
CanDo (call.MakeFile path) t = CanMake t path.bytes
CanDo (call.Append path bytes) t = IsSole t path.bytes
CanDo (call.MakeLink path target) t = CanMake t path.bytes
CanDo (call.MakeHard path to) t = CanMake t path.bytes × IsTrue (is_file (t.look to.bytes))
CanDo (call.Remove path) t = Unit {0}
CanDo (call.SetMode path mode) t = IsTrue (has_mode (t.look path.bytes)) × (mode < 4096)
CanDo call.Sync t = Unit {0}

-- each of the calls could be made where it was made
abbrev pub CanAll : List Call → Image → Type 0
CanAll [] t = Unit {0}
CanAll (c ∷ calls) t = CanDo c t × CanAll calls (change_of c t)

-- the call changes something
abbrev pub is_change : Call → Bool
is_change (call.MakeDir path mode) = true
is_change (call.MakeFile path) = true
is_change (call.Append path bytes) = true
is_change (call.MakeLink path target) = true
is_change (call.MakeHard path to) = true
is_change (call.Remove path) = true
is_change (call.SetMode path mode) = true
is_change call.Sync = false

-- The image is what the calls left of the first one.
pub record IsLeft (first now : Image) (calls : List Call) : Type 0 where
  pub held : (replay calls (begun first)).state.held ≡ now

-- So many calls were made at the last sync, and none of those since was one.
pub record IsSynced (first : Image) (calls : List Call) (count : ℕ) : Type 0 where
  pub within : count ≤ length calls
  pub safe : replay (take count calls) (begun first) ≡ begun (replay calls (begun first)).safe
  pub since : IsTrue (list_all is_change (drop count calls))

CanDo-prop : (c : Call) (t : Image) → IsProp (CanDo c t)
CanDo-prop (call.MakeDir path mode) t = hlevel props
CanDo-prop (call.MakeFile path) t = hlevel props
CanDo-prop (call.Append path bytes) t = hlevel props
CanDo-prop (call.MakeLink path target) t = hlevel props
CanDo-prop (call.MakeHard path to) t = hlevel props
CanDo-prop (call.Remove path) t = hlevel props
CanDo-prop (call.SetMode path mode) t = hlevel props
CanDo-prop call.Sync t = hlevel props

pub CanAll-prop : (calls : List Call) (t : Image) → IsProp (CanAll calls t)
CanAll-prop [] t = Unit-prop
CanAll-prop (c ∷ calls) t = ×_prop (CanDo-prop c t) (CanAll-prop calls (change_of c t))
