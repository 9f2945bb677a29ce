-- What is so at each moment, while a repository is made.
use Rattle.std.specs.Prelude.{◌≡◌, ◌⊎◌, ℕ, Bool, ◌||◌, IsTrue, List, Some}
use Rattle.std.specs.List.{Contains}
use Rattle.ips_text.specs.Ancestry.{covers}
use Rattle.ips_outside.specs.Image.{Image, is_dir}
use Rattle.ips_outside.specs.State.{State, MayLeave, nowhere}
use Rattle.ips_outside.specs.Outside.{Outside}
use Rattle.ips_folder.specs.Calls.{ChangesOnly, Throughout}
use Rattle.ips_journal.specs.Text.{journal_text}
use Rattle.ips_files.specs.Files.{file_at}
use Rattle.ips_repo.specs.Places.{mark_place}
use Rattle.ips_repo.specs.Mark.{is_repository}
use Rattle.ips_ways.specs.Ways.{is_missing}
use Rattle.ips_lay.specs.Records.{record_dirs}
use Rattle.ips_sends.specs.Keeps.{Keeps}
use Rattle.ips_sends.specs.Sends.{MakesRecords}
use Rattle.ips_sends.specs.Whole.{Attempt, AreWholeOrOut}
use Rattle.ips_create.specs.Created.{Layout, all_dirs, layout_of}

-- ---- where the mark is valid, the rest stands

-- the rest of a repository stands: its catalog and its directories
abbrev pub StandsBut : Layout → Image → Type 0
StandsBut l t = (file_at t l.catalog ≡ Some l.text) × ((d : List ℕ) → Contains (all_dirs l) d → IsTrue (is_dir (t.look d)))

-- where the mark is valid, it stands
abbrev pub StandsIfMarked : Layout → Image → Type 0
StandsIfMarked l t = IsTrue (is_repository t) → StandsBut l t

-- Where the mark is valid, the rest stands: in the image that is held, and in each that a crash may leave.
pub record IsMarkedLast (l : Layout) (s : State) : Type 0 where
  pub now : StandsIfMarked l s.held
  pub left : (c : Image) → MayLeave s c → StandsIfMarked l c

-- ---- what is changed, and what is kept

-- the path is at or below the mark, the catalog, or a directory that is missing in the image: in its place stands nothing, or what gives way to it
abbrev pub is_laid : Layout → Image → List ℕ → Bool
is_laid l t q = covers mark_place q || (covers l.catalog q || is_missing t l.dirs q)

-- While it is made: first directories of the records, of which one was missing, or nothing; and since then only what is at or below the mark, the catalog and
-- directories that were missing. Since then whatever was said of attempts at publications as it began is said at each moment.
pub record Makes {F : Type 0} (o : Outside F) (l : Layout) (old new : F) : Type 0 where
  pub from : F
  pub first : (from ≡ old) ⊎ MakesRecords o old from
  pub records : ChangesOnly o (is_missing (o.state old).held record_dirs) nowhere old from
  pub rest : ChangesOnly o (is_laid l (o.state old).held) (is_laid l (o.state old).held) from new
  pub kept : (xs : List Attempt) → Keeps journal_text (AreWholeOrOut xs) (o.state old) → Throughout o from new (Keeps journal_text (AreWholeOrOut xs))

-- the same of a repository of the publisher
abbrev pub Creates : {F : Type 0} → Outside F → List ℕ → F → F → Type 0
Creates o publisher old new = Makes o (layout_of publisher) old new

-- at each moment the mark of a repository of the publisher isn't valid, or the rest of it stands and is safe
abbrev pub StaysMarkedLast : {F : Type 0} → Outside F → List ℕ → F → F → Type 0
StaysMarkedLast o publisher old new = Throughout o old new (IsMarkedLast (layout_of publisher))
