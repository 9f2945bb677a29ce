-- A repository that is made, and why it isn't.
use Rattle.std.specs.Prelude.{◌≡◌, ℕ, Bool, true, false, IsTrue, IsFalse, List, [], ◌∷◌, ◌++◌, Some, Result, Ok, Err, codes}
use Rattle.std.specs.List.{Contains}
use Rattle.ips_text.specs.Ancestry.{covers}
use Rattle.ips_text.specs.declared.refusal.Or.{Or}
use Rattle.ips_text.specs.declared.refusal.Or.TheVariants.{Bad, OutOfMemory}
use Rattle.ips_outside.specs.Image.{Image, File, is_dir}
use Rattle.ips_outside.specs.State.{State, IsSettled}
use Rattle.ips_repo.specs.Places.{mark_place, catalog_place, publisher_place}
use Rattle.ips_repo.specs.Mark.{is_repository}
use Rattle.ips_listing.specs.Text.{catalog_text}
use Rattle.ips_ways.specs.Ways.{IsFirstInTheWay, IsFree, with_dirs}
use Rattle.ips_lay.specs.Records.{record_dirs}
use Rattle.ips_create.specs.declared.fault.CreateFault.{CreateFault}
use Rattle.ips_create.specs.declared.fault.CreateFault.TheVariants.{Exists, Blocked, FolderFault}

-- ---- what is made

-- What a folder gets besides its mark: directories, behind those of the records and each behind those that it stands in, and a catalog.
pub record Layout : Type 0 where
  pub dirs : List (List ℕ)
  pub catalog : List ℕ
  pub text : List ℕ

-- the directories of a repository of one publisher
abbrev pub place_dirs : List ℕ → List (List ℕ)
place_dirs publisher =
    codes "publisher" ∷ publisher_place publisher ∷ (publisher_place publisher ++ codes "/catalog") ∷ (publisher_place publisher ++ codes "/pkg") ∷ (publisher_place publisher ++ codes "/file") ∷ []

-- that of a repository of one publisher, whose catalog lists nothing
abbrev pub layout_of : List ℕ → Layout
layout_of publisher = record { dirs = place_dirs publisher; catalog = catalog_place publisher; text = catalog_text publisher [] }

-- all directories that it has, with those of the records
abbrev pub all_dirs : Layout → List (List ℕ)
all_dirs l = record_dirs ++ l.dirs

-- the text of the mark
abbrev pub mark_text : List ℕ
mark_text = codes "version=4\n"

-- It is made of an image that is no repository and has nothing in its way: the mark and the catalog are files of mode 0644 with their texts; its directories
-- stand, made in place of what gives way to them; each other path is as it was; and nothing is touched.
pub record IsMade (l : Layout) (t : Image) (s : State) : Type 0 where
  pub unmarked : IsFalse (is_repository t)
  pub free : IsFree t (all_dirs l)
  pub mark : s.held.look mark_place ≡ Some (File 420 mark_text)
  pub catalog : s.held.look l.catalog ≡ Some (File 420 l.text)
  pub dirs : (d : List ℕ) → Contains (all_dirs l) d → IsTrue (is_dir (s.held.look d))
  pub others : (q : List ℕ) → IsFalse (covers mark_place q) → IsFalse (covers l.catalog q) → s.held.look q ≡ (with_dirs (all_dirs l) t).look q
  pub safe : IsSettled s

-- a repository of the publisher is made of an image
abbrev pub IsCreated : List ℕ → Image → State → Type 0
IsCreated publisher t s = IsMade (layout_of publisher) t s

-- ---- why it isn't made

-- Why it isn't made: a repository is there; or there is none, and this is the least path by bytes at which something is in the way of a directory; or a call
-- failed. A call that may change something is made only where neither is so.
abbrev pub SaysOfMaking : Layout → Image → CreateFault → Type 0
SaysOfMaking l t Exists = IsTrue (is_repository t)
SaysOfMaking l t (Blocked path) = IsFalse (is_repository t) × IsFirstInTheWay t (all_dirs l) path.bytes
SaysOfMaking l t (FolderFault unfinished) = IsTrue unfinished → IsFalse (is_repository t) × IsFree t (all_dirs l)

-- the same of a repository of the publisher
abbrev pub SaysOfCreate : List ℕ → Image → CreateFault → Type 0
SaysOfCreate publisher t why = SaysOfMaking (layout_of publisher) t why

-- whether a call was made that may change something
abbrev pub is_begun : CreateFault → Bool
is_begun Exists = false
is_begun (Blocked path) = false
is_begun (FolderFault unfinished) = unfinished

-- the same of what was answered
abbrev pub has_begun : Result (Unit {0}) (Or CreateFault) → Bool
has_begun (Ok done) = true
has_begun (Err (Bad why)) = is_begun why
has_begun (Err OutOfMemory) = false

-- a call failed
abbrev pub IsFault : CreateFault → Type 0
IsFault Exists = ⊥
IsFault (Blocked path) = ⊥
IsFault (FolderFault unfinished) = Unit {0}

-- the same of what was answered
abbrev pub IsFolderFault : Result (Unit {0}) (Or CreateFault) → Type 0
IsFolderFault (Ok done) = ⊥
IsFolderFault (Err (Bad why)) = IsFault why
IsFolderFault (Err OutOfMemory) = ⊥
