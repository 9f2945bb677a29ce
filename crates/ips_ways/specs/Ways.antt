-- Directories that are made where nothing stands, or what gives way to them.
use Rattle.std.specs.Prelude.{◌≡◌, ◌≢◌, ℕ, Bool, true, false, cond, ◌&&◌, ◌||◌, ◌==◌, IsTrue, IsFalse, List, [], ◌∷◌, Option, Some, None, is_none, Result, Ok, Err, codes}
use Rattle.std.specs.List.{list_any, Contains}
use Rattle.std.specs.Ordering.{nat_cmp}
use Rattle.std.specs.declared.cmp.Ordering.TheVariants.{Less}
use Rattle.std.specs.Cmp.Lexicographic.{slice_cmp}
use Rattle.ips_text.specs.Ancestry.{covers}
use Rattle.ips_outside.specs.Image.{Entry, Dir, File, Link, Other, Image, is_dir, has_parent}
use Rattle.ips_outside.specs.Change.{with_entry_at}
use Rattle.ips_outside.specs.Outside.{Rose}
use Rattle.ips_outside.specs.declared.outside.Look.{Look}
use Rattle.ips_outside.specs.declared.outside.Look.TheVariants as look
use Rattle.ips_ways.specs.declared.making.Unmade.{Unmade}

-- nothing stands there, or a file without bytes
abbrev pub is_none_or_empty : Option Entry → Bool
is_none_or_empty (Some (Dir m f)) = false
is_none_or_empty (Some (File m [])) = true
is_none_or_empty (Some (File m (b ∷ bytes))) = false
is_none_or_empty (Some (Link g)) = false
is_none_or_empty (Some Other) = false
is_none_or_empty None = true

-- What stands at the path gives way to a directory: nothing, or, at or below `publisher`, an empty file, since a crash may leave one in the place of a
-- directory that was made and not yet made safe.
abbrev pub gives_way : List ℕ → Option Entry → Bool
gives_way p e = cond (covers (codes "publisher") p) (is_none_or_empty e) (is_none e)

-- the same by what a look answers
abbrev pub gives_at : List ℕ → Look → Bool
gives_at p look.Absent = true
gives_at p (look.Dir mode) = false
gives_at p (look.File mode size) = (size == 0) && covers (codes "publisher") p
gives_at p look.Link = false
gives_at p look.Other = false

-- a look answers a directory
abbrev pub is_dir_at : Look → Bool
is_dir_at look.Absent = false
is_dir_at (look.Dir mode) = true
is_dir_at (look.File mode size) = false
is_dir_at look.Link = false
is_dir_at look.Other = false

-- a directory stands at the path, or what gives way to one
abbrev pub is_dir_or_free : List ℕ → Option Entry → Bool
is_dir_or_free p e = gives_way p e || is_dir e

-- the image with a directory of mode 0755 at this path, in place of what gives way to it
abbrev pub with_dir : List ℕ → Image → Image
with_dir p t = cond (gives_way p (t.look p)) (with_entry_at p (Some (Dir 493 false)) t) t

-- the same at each of these paths, one after the other
abbrev pub with_dirs : List (List ℕ) → Image → Image
with_dirs [] t = t
with_dirs (p ∷ paths) t = with_dirs paths (with_dir p t)

-- directories stand at these paths, or can be made there one after the other: at each stands a directory or what gives way to one, in a directory
abbrev pub CanHave : Image → List (List ℕ) → Type 0
CanHave t [] = Unit {0}
CanHave t (p ∷ paths) = IsTrue (is_dir_or_free p (t.look p) && has_parent t p) × CanHave (with_dir p t) paths

-- the path is at or below one of these at which what stands gives way to a directory
abbrev pub is_missing : Image → List (List ℕ) → List ℕ → Bool
is_missing t paths q = list_any (λ p. gives_way p (t.look p) && covers p q) paths

-- at one of these what stands gives way to a directory
abbrev pub any_missing : Image → List (List ℕ) → Bool
any_missing t paths = list_any (λ p. gives_way p (t.look p)) paths

-- of a count of calls that may change something: one was made, or none
pub record HasBegun (before now : ℕ) (begun : Bool) : Type 0 where
  pub none : IsFalse begun → now ≡ before
  pub some : IsTrue begun → Rose before now

-- whether a call was made that may change something, as it is answered
abbrev pub has_begun : Result Bool Unmade → Bool
has_begun (Ok made) = made
has_begun (Err why) = why.begun

-- ---- what is in the way

-- something stands there that is no directory and doesn't give way to one
abbrev pub IsInTheWay : Image → List ℕ → Type 0
IsInTheWay t path = IsFalse (is_dir_or_free path (t.look path))

-- this is the first of these paths, by bytes, at which something is in the way
abbrev pub IsFirstInTheWay : Image → List (List ℕ) → List ℕ → Type 0
IsFirstInTheWay t paths path = Contains paths path × IsInTheWay t path × ((other : List ℕ) → Contains paths other → IsInTheWay t other → slice_cmp nat_cmp other path ≢ Less)

-- nothing is in the way
abbrev pub IsFree : Image → List (List ℕ) → Type 0
IsFree t paths = (path : List ℕ) → Contains paths path → IsInTheWay t path → ⊥
