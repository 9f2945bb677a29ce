-- Manifests: which lines a text means, the first fault of a text that means none, and the canonical text.
use Rattle.std.specs.Prelude.{◌≡◌, ℕ, ◌+◌, Bool, true, false, not, ◌&&◌, ◌==◌, List, [], ◌∷◌, ◌++◌, Option, codes}
use Rattle.std.specs.List.{list_all, list_any, flat_map}
use Rattle.std.specs.Str.{IsUtf8}
use Rattle.ips_action.specs.declared.kind.ActionKind.{ActionKind}
use Rattle.ips_action.specs.declared.kind.ActionKind.TheVariants.{Set, Depend, Dir, File, Link, Hardlink, User, Group, Driver, License, Legacy, Signature}
use Rattle.ips_action.specs.Attrs.{is_same, values_of}
use Rattle.ips_action.specs.Action.{Fields, IsAction, line_text}
use Rattle.ips_action.specs.Meaning.{Means, IsFirstFault}
use Rattle.ips_manifest.specs.declared.line.Line.{Line}
use Rattle.ips_manifest.specs.declared.fault.LineFault.{LineFault}
use Rattle.ips_manifest.specs.declared.fault.ManifestFault.{ManifestFault}
use Rattle.ips_manifest.specs.Logical.{Logical, lines_of}
use Rattle.ips_manifest.specs.Text.{TextMeansBy, LineMeansBy, LinesMeanBy, IsActionFaultBy, IsFaultAtBy, IsFirstInBy}

-- ---- what a text means

-- an action and the number of its line, as a line of a manifest
abbrev pub line_at : ℕ → Fields → Line
line_at number action = record { number = number; action = action }

-- the lines of the manifest that the text of a logical line gives: none where it is skipped, and else the action that it means, with its number
abbrev pub TextMeans : Bool → Logical → List Line → Type 0
TextMeans skipped line lines = TextMeansBy Means line_at skipped line lines

-- the logical line is UTF-8, and gives these lines of the manifest
abbrev pub LineMeans : Logical → List Line → Type 0
LineMeans line lines = LineMeansBy Means line_at line lines

-- each logical line gives its lines of the manifest, one after the other
abbrev pub LinesMean : List Logical → List Line → Type 0
LinesMean logical lines = LinesMeanBy Means line_at logical lines

-- the text is that of a manifest of these lines
abbrev pub IsManifestOf : List ℕ → List Line → Type 0
IsManifestOf bytes lines = LinesMean (lines_of bytes) lines

-- ---- faults

-- the text is no action, and this is its first fault
abbrev pub IsActionFault : List ℕ → LineFault → Type 0
IsActionFault text f = IsActionFaultBy Means IsFirstFault text f

-- the fault of a logical line: at its first physical line that isn't UTF-8, where there is one, and else at its own number
abbrev pub IsFaultAt : Option ℕ → Logical → ManifestFault → Type 0
IsFaultAt unreadable line f = IsFaultAtBy Means IsFirstFault unreadable line f

-- the logical line has this fault
abbrev pub IsLineFault : Logical → ManifestFault → Type 0
IsLineFault line f = IsFaultAt line.unreadable line f

-- the fault is that of the first logical line that has one
abbrev pub IsFirstIn : List Logical → ManifestFault → Type 0
IsFirstIn logical f = IsFirstInBy Means line_at IsFirstFault logical f

-- the text is no manifest, and this is its first fault
abbrev pub IsFaultOf : List ℕ → ManifestFault → Type 0
IsFaultOf bytes f = IsFirstIn (lines_of bytes) f

-- ---- the canonical text

-- the canonical line of an action, ended by a newline
abbrev pub line_written : Line → List ℕ
line_written line = line_text line.action ++ 10 ∷ []

-- the canonical text of a manifest: its actions in order
abbrev pub manifest_text : List Line → List ℕ
manifest_text lines = flat_map line_written lines

-- the same actions with the numbers of the lines of their canonical text, of which the first has this one
abbrev pub renumbered : ℕ → List Line → List Line
renumbered number [] = []
renumbered number (line ∷ lines) = record { number = number; action = line.action } ∷ renumbered (number + 1) lines

-- the action of a line can stand on a physical line: its canonical line is UTF-8 and has no newline
pub record StandsOnLine (line : Line) : Type 0 where
  pub action : IsAction line.action
  pub text : IsUtf8 (line_text line.action)
  pub single : list_all (λ b. not (b == 10)) (line_text line.action) ≡ true

-- ---- what a manifest says of its package

-- the kind is `set`
abbrev pub is_set : ActionKind → Bool
is_set Set = true
is_set Depend = false
is_set Dir = false
is_set File = false
is_set Link = false
is_set Hardlink = false
is_set User = false
is_set Group = false
is_set Driver = false
is_set License = false
is_set Legacy = false
is_set Signature = false

-- the key has this value
abbrev pub has_value : List ℕ → List ℕ → Fields → Bool
has_value key value action = list_any (is_same value) (values_of key action.attrs)

-- the action tells that the package is obsolete: it is a `set` with `name=pkg.obsolete` and a value `true`
abbrev pub tells_obsolete : Fields → Bool
tells_obsolete action = is_set action.kind && has_value (codes "name") (codes "pkg.obsolete") action && has_value (codes "value") (codes "true") action
