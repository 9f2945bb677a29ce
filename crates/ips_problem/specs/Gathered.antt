-- What was read of the manifests that are needed, and what a puzzle is put together from.
use Rattle.std.specs.Prelude.{◌≡◌, ℕ, ◌+◌, ◌<◌, ◌≤◌, Bool, true, ◌&&◌, if◌then◌else◌, List, [], ◌∷◌, ◌++◌, map, length, take, slice_get, Option, Some, None, is_some}
use Rattle.std.specs.List.{AllByRecursion, AllZip, list_any}
use Rattle.ips_fmri.specs.Version.{Parts}
use Rattle.ips_filter.specs.Settings.{Set}
use Rattle.ips_manifest.specs.declared.line.Line.{Line}
use Rattle.ips_depend.specs.Dependency.{Dependency}
use Rattle.ips_depend.specs.Asking.{LinesAsk}
use Rattle.ips_state.specs.State.{Installed}
use Rattle.ips_repo.specs.Manifest.{manifest_limit}
use Rattle.ips_request.specs.declared.fault.ProblemFault.{ProblemFault}
use Rattle.ips_request.specs.declared.read.Read.{Read}
use Rattle.ips_request.specs.Case.{Case, installed_version, manifest_facts}
use Rattle.ips_request.specs.Candidates.{may_come, greatest, is_version, tell_obsolete, candidates}
use Rattle.ips_request.specs.Stems.{stems_of}
use Rattle.ips_request.specs.Manifests.{Needed, IsFetched, IsFetchFault, IsManifestFault, IsThere, all_manifests_limit, bytes_read}
use Rattle.ips_problem.specs.declared.rows.Row as declared
use Rattle.ips_problem.specs.declared.gathered.Gathered.{Gathered}
use Rattle.ips_problem.specs.Reach.{dependencies_of, grown, IsReach}
use Rattle.ips_problem.specs.Posed.{Numbered, Posed, StemRow, numbered, posed, row_of, tests_from}
use Rattle.ips_problem.specs.Seen.{seen_row, seen_test}
use Rattle.ips_problem.specs.Fault.{AreRead, all_bytes, manifests_at, manifests_of}

-- ---- one stem

-- The manifest of the version of the stem was read, and all that is asked of it is known.
pub record IsReadOf (c : Case) (stem : List ℕ) (v : Parts) (read : Read) : Type 0 where
  pub version : read.version ≡ v
  pub says : manifest_facts c stem v ≡ Some (record { lines = read.manifest.lines.items; dependencies = read.tests.items })
  pub gone : read.gone ≡ tell_obsolete read.manifest.lines.items
  pub comes : read.comes ≡ may_come c stem v
  pub stands : read.stands ≡ is_version (installed_version c stem) v
  pub newest : read.newest ≡ is_version (greatest c stem) v

-- The same of lines that were read, by the image's settings.
pub record IsJudgedRead (settings : Set) (c : Case) (stem : List ℕ) (v : Parts) (lines : List Line) (read : Read) : Type 0 where
  pub version : read.version ≡ v
  pub manifest : read.manifest.lines.items ≡ lines
  pub asks : LinesAsk settings lines read.tests.items
  pub gone : read.gone ≡ tell_obsolete lines
  pub comes : read.comes ≡ may_come c stem v
  pub stands : read.stands ≡ is_version (installed_version c stem) v
  pub newest : read.newest ≡ is_version (greatest c stem) v

-- the lines of the manifest of the image, where it has one, and else of the repository's file
abbrev pub Got : Option Installed → Option (List ℕ) → ℕ → ℕ → List Line → Type 0
Got None file before now lines = IsThere file (IsFetched before now lines)
Got (Some p) file before now lines = (lines ≡ p.lines) × (now ≡ before)

-- why they weren't read
abbrev pub GotFault : Option Installed → Option (List ℕ) → ℕ → List ℕ → ProblemFault → Type 0
GotFault None file total name why = IsFetchFault total file name why
GotFault (Some p) file total name why = ⊥

-- The manifest was read, and its bytes were counted.
pub record IsReadBehind (c : Case) (before now : ℕ) (stem : List ℕ) (v : Parts) (read : Read) : Type 0 where
  pub is : IsReadOf c stem v read
  pub few : bytes_read c (record { stem = stem; version = v }) ≤ manifest_limit
  pub counted : now ≡ before + bytes_read c (record { stem = stem; version = v })

-- The manifests of these versions of the stem were read, and their bytes were counted.
pub record AreReadBehind (c : Case) (before now : ℕ) (stem : List ℕ) (versions : List Parts) (reads : List Read) : Type 0 where
  pub each : AllZip (IsReadOf c stem) versions reads
  pub few : AllByRecursion (λ (n : Needed). bytes_read c n ≤ manifest_limit) (manifests_at stem versions)
  pub counted : now ≡ before + all_bytes c (manifests_at stem versions)

-- The fault is that of the first of these versions of the stem whose manifest has one.
pub record IsFaultAmong (settings : Set) (c : Case) (total : ℕ) (stem : List ℕ) (versions : List Parts) (why : ProblemFault) : Type 0 where
  pub before : List Parts
  pub version : Parts
  pub behind : List Parts
  pub next : versions ≡ before ++ version ∷ behind
  pub told : AllByRecursion (λ (n : Needed). is_some (manifest_facts c n.stem n.version) ≡ true) (manifests_at stem before)
  pub few : AllByRecursion (λ (n : Needed). bytes_read c n ≤ manifest_limit) (manifests_at stem before)
  pub all : total + all_bytes c (manifests_at stem before) ≤ all_manifests_limit
  pub fault : IsManifestFault settings c (total + all_bytes c (manifests_at stem before)) (record { stem = stem; version = version }) why

-- the numbers, from this one on, of those to which the stem may come
abbrev pub coming_from : ℕ → List Read → List ℕ
coming_from i [] = []
coming_from i (read ∷ reads) = if read.comes then i ∷ coming_from (i + 1) reads else coming_from (i + 1) reads

-- the greatest version of the catalog is obsolete
abbrev pub is_newest_gone : List Read → Bool
is_newest_gone reads = list_any (λ (read : Read). read.newest && read.gone) reads

-- what a version that was read asks for
abbrev pub asked : Option Read → List Dependency
asked None = []
asked (Some read) = read.tests.items

-- what the version with this number asks for; absence asks for nothing
abbrev pub asked_at : List Read → Option ℕ → List Dependency
asked_at reads None = []
asked_at reads (Some i) = asked (slice_get reads i)

-- What is known of a stem is what the case says of it.
pub record IsRowOf (c : Case) (stem : List ℕ) (row : declared.Row) : Type 0 where
  pub seen : seen_row row ≡ row_of c stem
  pub asks : AllZip (λ o p. asked_at row.reads.items o ≡ dependencies_of c stem p) row.candidates.items (candidates c stem)

-- the tests of candidates of the stem with this number, of which the first has that number
abbrev pub tests_asked : ℕ → ℕ → List Read → List (Option ℕ) → List Numbered
tests_asked i k reads [] = []
tests_asked i k reads (o ∷ os) = numbered i k (asked_at reads o) ++ tests_asked i (k + 1) reads os

-- ---- stem by stem

-- The first k stems of the list were gone through: it has grown so far, these are their rows and tests, and of what they need
-- nothing has a fault.
pub record IsGoneThrough (c : Case) (stems : List (List ℕ)) (k : ℕ) (rows : List StemRow) (tests : List Numbered) (total : ℕ) : Type 0 where
  pub grows : stems ≡ grown c stems k
  pub on_list : (j : ℕ) → j < k → j < length (grown c stems j)
  pub known : rows ≡ map (row_of c) (take k stems)
  pub asks : tests ≡ tests_from c 0 (take k stems)
  pub read : AreRead c (manifests_of c (take k stems))
  pub counted : total ≡ all_bytes c (manifests_of c (take k stems))

-- the stems of which there are rows were gone through
abbrev pub IsGathered : Case → Gathered → Type 0
IsGathered c g = IsGoneThrough c (stems_of g.stems.keys) (length g.rows.items) (map seen_row g.rows.items) (map seen_test g.tests.items) g.total

-- The puzzle is that of the case: its stems are the list of those in reach, and of what they need nothing has a fault.
pub record IsPosedBy (c : Case) (p : Posed) : Type 0 where
  pub reach : IsReach c p.stems
  pub read : AreRead c (manifests_of c p.stems)
  pub same : p ≡ posed c p.stems
