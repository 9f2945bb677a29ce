-- An image at which just the files of some records stand, and a state whose manifests are numbered as they are written.
use Rattle.std.specs.Prelude.{◌≡◌, ◌⊎◌, ℕ, Bool, true, false, IsTrue, List, map, None}
use Rattle.std.specs.List.{AllByRecursion, list_any}
use Rattle.ips_text.specs.Ancestry.{same_path}
use Rattle.ips_outside.specs.Image.{Image}
use Rattle.ips_outside.specs.Children.{is_child}
use Rattle.ips_manifest.specs.Manifest.{renumbered}
use Rattle.ips_state.specs.State.{Installed, Recorded}
use Rattle.ips_state.specs.Records.{index_path, packages_path}
use Rattle.ips_load.specs.Held.{Stands}
use Rattle.ips_load.specs.Fault.{IsFolder}

-- The path of a file, and its bytes.
abbrev pub Written : Type 0
Written = List ℕ × List ℕ

-- One of the records has this path.
abbrev pub has_path : List Written → List ℕ → Bool
has_path entries path = list_any (λ e. same_path e.0 path) entries

-- In format 2 the folder of packages stands, and each of its children is one of the records; in format 1, which the flag tells,
-- it isn't read.
abbrev pub HasNoOther : Bool → Image → List Written → Type 0
HasNoOther true t entries = Unit {0}
HasNoOther false t entries = IsFolder t × ((path : List ℕ) → is_child t packages_path path ≡ true → has_path entries path ≡ true)

-- The records stand as files, each within the limit, and nothing else does where records of packages or the index are looked for.
pub record JustStand (first : Bool) (t : Image) (entries : List Written) : Type 0 where
  pub each : AllByRecursion (λ e. Stands t e.0 e.1) entries
  pub index : (t.look index_path ≡ None) ⊎ IsTrue (has_path entries index_path)
  pub packages : HasNoOther first t entries

-- The package, with the numbers that the lines of its manifest have where it is written.
abbrev pub recounted_package : Installed → Installed
recounted_package p = record { stem = p.stem; version = p.version; lines = renumbered 1 p.lines }

-- The state, with the numbers that the lines of its manifests have where they are written.
abbrev pub recounted : Recorded → Recorded
recounted r = record {
  format = r.format;
  publisher = r.publisher;
  origins = r.origins;
  actuator = r.actuator;
  settings = r.settings;
  installed = map recounted_package r.installed;
  avoid = r.avoid;
  freeze = r.freeze;
  mediators = r.mediators;
  history = r.history;
  index = r.index;
}
