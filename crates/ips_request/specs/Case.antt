-- What a request is decided over: what it names and rejects, what the catalog lists and the image has, and what manifests say.
use Rattle.std.specs.Prelude.{ℕ, Bool, if◌then◌else◌, List, find, Option, Some, None, MatchOption}
use Rattle.std.specs.List.{list_any}
use Rattle.std.specs.Option.{option_map, option_and_then, is_some}
use Rattle.std.specs.Ordering.{is_eq}
use Rattle.std.specs.Str.{bytes_eq}
use Rattle.ips_fmri.specs.Version.{Parts}
use Rattle.ips_fmri.specs.Order.{version_cmp}
use Rattle.ips_fmri.specs.declared.fmri.Fmri.{Fmri}
use Rattle.ips_catalog.specs.Listed.{Listed}
use Rattle.ips_manifest.specs.declared.line.Line.{Line}
use Rattle.ips_manifest.specs.Manifest.{IsManifestOf}
use Rattle.ips_filter.specs.Settings.{Set}
use Rattle.ips_depend.specs.Dependency.{Dependency}
use Rattle.ips_depend.specs.Asking.{LinesAsk}
use Rattle.ips_state.specs.State.{Installed}
use Rattle.ips_request.specs.declared.kind.Kind.{Kind}
use Rattle.ips_request.specs.Stems.{has}

-- What a pattern names: these stems, at the versions that its own version admits.
pub record Naming : Type 0 where
  pub stems : List (List ℕ)
  pub limit : Option Parts

-- What a manifest says: its lines, and the dependencies that they ask for in the image.
pub record Facts : Type 0 where
  pub lines : List Line
  pub dependencies : List Dependency

-- How manifests are read: the lines of a text, where it is a manifest, and the dependencies that lines ask for, where none of
-- them is bad.
pub record ManifestReading : Type 0 where
  pub lines : List ℕ → Option (List Line)
  pub dependencies : List Line → Option (List Dependency)

-- Manifests are read by their grammar, and dependencies as the image's settings take them.
pub record IsReading (settings : Set) (r : ManifestReading) : Type 0 where
  pub lines : (bytes : List ℕ) → MatchOption (r.lines bytes) ((lines : List Line) → IsManifestOf bytes lines → ⊥) (IsManifestOf bytes)
  pub dependencies : (lines : List Line) → MatchOption (r.dependencies lines) ((ds : List Dependency) → LinesAsk settings lines ds → ⊥) (LinesAsk settings lines)

-- A request and what it is decided over. Uninstalling and keeping reject nothing, and look at no catalog: it is empty for them.
pub record Case : Type 0 where
  pub kind : Kind
  -- what each of its patterns names, in the request's order
  pub named : List Naming
  pub rejected : List (List ℕ)
  pub catalog : List Listed
  pub installed : List Installed
  pub avoid : List (List ℕ)
  pub freeze : List Fmri
  -- the manifest file of the repository for a version of a stem, where one stands
  pub file : List ℕ → Parts → Option (List ℕ)
  pub reading : ManifestReading

-- the versions are the same
abbrev pub is_same_version : Parts → Parts → Bool
is_same_version v w = is_eq (version_cmp v w)

-- a pattern names the stem
abbrev pub is_named : Case → List ℕ → Bool
is_named c stem = list_any (λ (n : Naming). has stem n.stems) c.named

-- the package with this stem that is installed
abbrev pub installed_at : Case → List ℕ → Option Installed
installed_at c stem = find (λ (p : Installed). bytes_eq stem p.stem) c.installed

-- the version at which the stem is installed
abbrev pub installed_version : Case → List ℕ → Option Parts
installed_version c stem = option_map (λ (p : Installed). p.version) (installed_at c stem)

-- the stem is installed
abbrev pub is_installed : Case → List ℕ → Bool
is_installed c stem = is_some (installed_at c stem)

-- what lines say, where none of them is bad
abbrev pub facts_of : ManifestReading → List Line → Option Facts
facts_of r lines = option_map (λ ds. record { lines = lines; dependencies = ds }) (r.dependencies lines)

-- what a manifest file says, where it stands and is a manifest
abbrev pub facts_in : ManifestReading → Option (List ℕ) → Option Facts
facts_in r file = option_and_then (facts_of r) (option_and_then r.lines file)

-- the installed package, where it is at this version
abbrev pub at_version : Option Installed → Parts → Option Installed
at_version None v = None
at_version (Some p) v = if is_same_version v p.version then Some p else None

-- the package with this stem, where it is installed at this version
abbrev pub own : Case → List ℕ → Parts → Option Installed
own c stem v = at_version (installed_at c stem) v

-- what the manifest of the image says, where it has one, and else the repository's file
abbrev pub said_of : Case → Option Installed → List ℕ → Parts → Option Facts
said_of c None stem v = facts_in c.reading (c.file stem v)
said_of c (Some p) stem v = facts_of c.reading p.lines

-- What the manifest of a version of a stem says: that of the installed version is the image's, any other the repository's.
abbrev pub manifest_facts : Case → List ℕ → Parts → Option Facts
manifest_facts c stem v = said_of c (own c stem v) stem v
