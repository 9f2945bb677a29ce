-- What the steps of reading a dependency answer.
use Rattle.std.specs.Prelude.{◌≡◌, ℕ, List, [], ◌∷◌, ◌++◌, Option, Some, None, Vec}
use Rattle.std.specs.declared.alloc.Global.{Global}
use Rattle.ips_fmri.specs.declared.fmri.Fmri.{Fmri}
use Rattle.ips_fmri.specs.Fmri.{IsFmri, WritesFmri}
use Rattle.ips_action.specs.Attrs.{Attr}
use Rattle.ips_manifest.specs.declared.line.Line.{Line}
use Rattle.ips_filter.specs.Settings.{Set}
use Rattle.ips_depend.specs.declared.dependency_type.DependencyType.{DependencyType}
use Rattle.ips_depend.specs.Dependency.{Dependency, type_name}
use Rattle.ips_depend.specs.Asking.{AreWritten, Asks, LineAsks}

-- The values are the word of the type, or of none.
abbrev pub IsTyped : List (List ℕ) → Option DependencyType → Type 0
IsTyped values None = (t : DependencyType) → values ≡ type_name t ∷ [] → ⊥
IsTyped values (Some t) = values ≡ type_name t ∷ []

-- The text is a way to write the FMRI, or to write none.
abbrev pub Reads : List ℕ → Option Fmri → Type 0
Reads text None = (f : Fmri) → IsFmri f → WritesFmri f text → ⊥
Reads text (Some f) = IsFmri f × WritesFmri f text

-- The texts are ways to write the FMRIs, or write none.
abbrev pub AreRead : List (List ℕ) → Option (Vec Fmri Global) → Type 0
AreRead texts None = (fmris : List Fmri) → AreWritten texts fmris → ⊥
AreRead texts (Some fmris) = AreWritten texts fmris.items

-- The attributes ask for the dependency, or for none.
abbrev pub IsAskedFor : List Attr → Option Dependency → Type 0
IsAskedFor attrs None = (d : Dependency) → Asks attrs d → ⊥
IsAskedFor attrs (Some d) = Asks attrs d

-- What the line asks for stands behind the old dependencies.
abbrev pub HasAdded : Set → Line → List Dependency → List Dependency → Type 0
HasAdded settings line old new = (ds : List Dependency) × LineAsks settings line ds × (new ≡ old ++ ds)
