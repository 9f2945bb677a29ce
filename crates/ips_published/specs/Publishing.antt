-- What a publication leaves of the image, and what is said of it while it is made.
use Rattle.std.specs.Prelude.{◌≡◌, ◌⊎◌, ℕ, Bool, false, IsTrue, IsFalse, List, Option, Some, None, IfSome, Ok}
use Rattle.ips_text.specs.Ancestry.{covers}
use Rattle.ips_outside.specs.Image.{Image, File}
use Rattle.ips_outside.specs.Outside.{Outside}
use Rattle.ips_folder.specs.Calls.{Throughout}
use Rattle.ips_steps.specs.Private.{gate_name, visible}
use Rattle.ips_steps.specs.Owed.{FolderOwes}
use Rattle.ips_journal.specs.Text.{journal_text}
use Rattle.ips_commit.specs.Pending.{HasCommitted}
use Rattle.ips_catalog.specs.Listed.{Listed}
use Rattle.ips_repo.specs.Opening.{opening}
use Rattle.ips_listing.specs.Text.{with_version}
use Rattle.ips_ways.specs.Ways.{is_missing}
use Rattle.ips_lay.specs.Laid.{IsAtUnlaid}
use Rattle.ips_sends.specs.Whole.{Attempt, IsWhole}
use Rattle.ips_sends.specs.Judged.{Put, ways}
use Rattle.ips_judged.specs.declared.verdict.Asked.{Asked}
use Rattle.ips_judged.specs.Answers.{IsAsked}
-- the names of the contents that are put, and where the manifest and the catalog are put
pub use Rattle.ips_ready.specs.Plans.{names_put, manifest_at, catalog_at}

-- the attempt at what was asked, with what is put, and whether it was answered that it is published
abbrev pub attempt : (a : Asked) → IsAsked a → Put → Bool → Attempt
attempt a is put answered = record {
  publisher = a.publisher;
  is_publisher = is.publisher;
  stem = a.stem;
  is_stem = is.stem;
  version = a.version;
  is_version = is.version;
  actions = put.actions;
  answered = answered;
}

-- The path is at or below a directory on the way that is missing in the image, in whose place nothing stands or what gives way to it, or at or below the
-- place of one of the contents that isn't intact there: what is written before the manifest and the catalog.
abbrev pub IsBesideAt : Asked → Put → Image → List ℕ → Type 0
IsBesideAt a put t q = IsTrue (is_missing t (ways a.publisher a.stem (names_put put)) q) ⊎ IsAtUnlaid a.publisher t (names_put put) q

-- of two images the same is seen at each other path
abbrev pub DiffersBeside : Asked → Put → Image → Image → Type 0
DiffersBeside a put t u = (q : List ℕ) → (IsBesideAt a put t q → ⊥) → (visible u).look q ≡ (visible t).look q

-- What is seen of the second image is the package published over the first: the manifest and the catalog that are put, the catalog with the version
-- besides, the package whole; and each path that is none of these, and none beside, is as it was seen.
pub record IsPublishedOver (a : Asked) (is : IsAsked a) (put : Put) (t u : Image) : Type 0 where
  pub manifest : u.look (manifest_at a) ≡ Some (File 420 put.manifest)
  pub catalog : u.look (catalog_at a) ≡ Some (File 420 put.catalog)
  pub opened : (catalog : List Listed) → opening a.publisher t ≡ Ok catalog → opening a.publisher u ≡ Ok (with_version a.stem a.version catalog)
  pub whole : IsWhole u (attempt a is put false)
  pub others : (q : List ℕ) → IsFalse (covers (manifest_at a) q) → IsFalse (covers (catalog_at a) q) → (IsBesideAt a put t q → ⊥) → u.look q ≡ (visible t).look q

-- Nothing is put: since the records stand the gate has stayed closed, and what is seen differs beside alone.
pub record LeavesUnput {F : Type 0} (o : Outside F) (a : Asked) (put : Put) (old from new : F) : Type 0 where
  pub shut : Throughout o from new (λ s. s.held.look gate_name ≡ None)
  pub seen : DiffersBeside a put (o.state old).held (o.state new).held

-- It is left unfinished: an image is owed that differs beside alone, or the one with the package published.
pub record LeavesUnfinished {F : Type 0} (o : Outside F) (a : Asked) (is : IsAsked a) (put : Put) (old new : F) : Type 0 where
  pub before : Image
  pub seen : DiffersBeside a put (o.state old).held before
  pub after : Option Image
  pub published : IfSome after (IsPublishedOver a is put (o.state old).held)
  pub owed : FolderOwes journal_text (visible before) after false (o.state new)

-- It is published, nothing is left at the updater's own names, and nothing is touched.
pub record HasPublished {F : Type 0} (o : Outside F) (a : Asked) (is : IsAsked a) (put : Put) (old new : F) : Type 0 where
  pub after : Image
  pub committed : HasCommitted after (o.state new)
  pub published : IsPublishedOver a is put (o.state old).held after
