-- What an image records, by the files that stand in it.
use Rattle.std.specs.Prelude.{◌≡◌, ℕ, ◌≤◌, Bool, true, false, ◌==◌, IsTrue, List, [], ◌++◌, map, length, Option, Some, None}
use Rattle.std.specs.List.{AllByRecursion, list_any}
use Rattle.ips_text.specs.Ancestry.{same_path}
use Rattle.ips_outside.specs.Image.{Image, is_dir}
use Rattle.ips_outside.specs.Children.{is_child, is_foreign}
use Rattle.ips_manifest.specs.Manifest.{IsManifestOf}
use Rattle.ips_files.specs.Files.{file_at}
use Rattle.ips_index.specs.Rows.{IndexedValue, index_text}
use Rattle.ips_state.specs.State.{Installed, Recorded, head_of}
use Rattle.ips_records.specs.Lines.{lines_text}
use Rattle.ips_state.specs.Text.{head_lines, versioned_stem, name_lines, mediator_line, package_head}
use Rattle.ips_state.specs.Lawful.{IsLawful}
use Rattle.ips_state.specs.Records.{image_path, installed_path, avoid_path, freeze_path, mediators_path, history_path, index_path, packages_path, manifest_path, package_path}

-- The most bytes that a record may have: 64 MiB.
abbrev pub record_limit : ℕ
record_limit = 67108864

-- A file of these bytes stands at the path, and isn't too large.
pub record Stands (t : Image) (path bytes : List ℕ) : Type 0 where
  pub file : file_at t path ≡ Some bytes
  pub within : length bytes ≤ record_limit

-- A manifest of these lines stands at the path, canonical or not, behind this front.
pub record StandsManifest (t : Image) (path front : List ℕ) (p : Installed) : Type 0 where
  pub text : List ℕ
  pub stands : Stands t path (front ++ text)
  pub means : IsManifestOf text p.lines

-- The manifest of the package stands in its place, in format 1.
abbrev pub HoldsManifest : Image → Installed → Type 0
HoldsManifest t p = StandsManifest t (manifest_path p.stem) [] p

-- The record of the package stands in its place, in format 2.
abbrev pub HoldsPackage : Image → Installed → Type 0
HoldsPackage t p = StandsManifest t (package_path p.stem) (package_head p.version) p

-- The packages of format 1: their list, and the manifest of each.
pub record HoldsListed (t : Image) (packages : List Installed) : Type 0 where
  pub names : Stands t installed_path (lines_text (name_lines (map versioned_stem packages)))
  pub each : AllByRecursion (HoldsManifest t) packages

-- The packages of format 2: the record of each stands in the folder of packages, and nothing else does.
pub record HoldsFolder (t : Image) (packages : List Installed) : Type 0 where
  pub folder : IsTrue (is_dir (t.look packages_path))
  pub native : is_foreign (t.look packages_path) ≡ false
  pub each : AllByRecursion (HoldsPackage t) packages
  pub only : (path : List ℕ) → is_child t packages_path path ≡ true → list_any (λ p. same_path (package_path p.stem) path) packages ≡ true

-- The packages, in the format that the flag tells: the first, or the second.
abbrev pub HoldsPackages : Bool → Image → List Installed → Type 0
HoldsPackages true t packages = HoldsListed t packages
HoldsPackages false t packages = HoldsFolder t packages

-- The record of an index stands in its place; where there is none, nothing stands there.
abbrev pub HoldsIndex : Image → Option (List IndexedValue) → Type 0
HoldsIndex t None = t.look index_path ≡ None
HoldsIndex t (Some rows) = Stands t index_path (index_text rows)

-- The image records just this.
pub record Holds (t : Image) (r : Recorded) : Type 0 where
  pub lawful : IsLawful r
  pub head : Stands t image_path (lines_text (head_lines (head_of r)))
  pub packages : HoldsPackages (r.format == 1) t r.installed
  pub avoid : Stands t avoid_path (lines_text r.avoid)
  pub freeze : Stands t freeze_path (lines_text (name_lines r.freeze))
  pub mediators : Stands t mediators_path (lines_text (map mediator_line r.mediators))
  pub history : Stands t history_path (lines_text r.history)
  pub index : HoldsIndex t r.index
