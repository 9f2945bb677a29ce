-- What commands that show print.
use Rattle.std.specs.Prelude.{◌≡◌, ◌↔◌, ℕ, if◌then◌else◌, nat_lt, List, [], ◌∷◌, ◌++◌, Option, Some, None, Contains, codes}
use Rattle.std.specs.List.{flat_map}
use Rattle.ips_text.specs.Path.{IsPath}
use Rattle.ips_text.specs.Quote.{shown}
use Rattle.ips_fmri.specs.Fmri.{fmri_text}
use Rattle.ips_action.specs.Action.{Fields}
use Rattle.ips_action.specs.Kind.{kind_name}
use Rattle.ips_conflict.specs.Alike.{kind_place}
use Rattle.ips_conflict.specs.Key.{value_of}
use Rattle.ips_filter.specs.Settings.{Set}
use Rattle.ips_filter.specs.Admitted.{Admits}
use Rattle.ips_index.specs.Rows.{IndexedValue}
use Rattle.ips_manifest.specs.declared.line.Line.{Line}
use Rattle.ips_manifest.specs.declared.package.Package.{Package}
use Rattle.ips_records.specs.Lines.{ended}
use Rattle.ips_state.specs.State.{Ascend, installed}
use Rattle.ips_state.specs.Text.{versioned_stem}

-- The line of a package: its stem and its version.
abbrev pub package_line : Package → List ℕ
package_line p = ended (fmri_text (versioned_stem (installed p)))

-- The text of `list`.
abbrev pub list_text : List Package → List ℕ
list_text packages = flat_map package_line packages

-- The line of a row that was found: its index, the kind of its action, the stem of its package and its value.
abbrev pub found_line : IndexedValue → List ℕ
found_line r = r.index ++ 32 ∷ (kind_name r.kind ++ 32 ∷ (r.stem ++ 32 ∷ (r.value ++ 10 ∷ [])))

-- The text of `search`.
abbrev pub found_text : List IndexedValue → List ℕ
found_text rows = flat_map found_line rows

-- The path that an action gives: that of a directory, a file or a link.
abbrev pub path_given : Fields → Option (List ℕ)
path_given a = if nat_lt (kind_place a.kind) 4 then Some (value_of (codes "path") a) else None

-- The action is admitted, and gives the path.
pub record Gives (settings : Set) (action : Fields) (path : List ℕ) : Type 0 where
  pub admitted : Admits settings action.attrs
  pub given : path_given action ≡ Some path

-- An admitted action of these lines gives the path.
pub record Delivers (settings : Set) (lines : List Line) (path : List ℕ) : Type 0 where
  pub line : Line
  pub stands : Contains lines line
  pub gives : Gives settings line.action path

-- Each of these is a path.
abbrev pub ArePaths : List (List ℕ) → Type 0
ArePaths paths = (path : List ℕ) → Contains paths path → IsPath path

-- The paths are those of the admitted actions of these lines, by their bytes, each once.
pub record AreContents (settings : Set) (lines : List Line) (paths : List (List ℕ)) : Type 0 where
  pub order : Ascend paths
  pub each : (path : List ℕ) → Contains paths path ↔ Delivers settings lines path

-- The text of `contents`: these paths as they are shown, one a line.
pub record IsContentsText (settings : Set) (lines : List Line) (text : List ℕ) : Type 0 where
  pub paths : List (List ℕ)
  pub are : AreContents settings lines paths
  pub is : text ≡ flat_map (λ path. ended (shown path)) paths
