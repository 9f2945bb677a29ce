-- Which manifests a stem needs, and what is at fault with one of them.
use Rattle.std.specs.Prelude.{◌≡◌, ℕ, ◌+◌, ◌<◌, ◌≤◌, Bool, true, not, ◌&&◌, ◌||◌, List, filter, length, Option, Some, None}
use Rattle.ips_text.specs.declared.limits.Which.{Which}
use Rattle.ips_text.specs.declared.limits.Which.TheVariants as which
use Rattle.ips_fmri.specs.Version.{Parts}
use Rattle.ips_fmri.specs.Fmri.{fmri_text}
use Rattle.ips_manifest.specs.declared.line.Line.{Line}
use Rattle.ips_manifest.specs.Manifest.{IsManifestOf, IsFaultOf}
use Rattle.ips_filter.specs.Settings.{Set}
use Rattle.ips_depend.specs.Asking.{IsFirstBad}
use Rattle.ips_text.specs.declared.refusal.Or.{Or}
use Rattle.ips_text.specs.declared.refusal.Or.TheVariants.{Bad, OutOfMemory}
use Rattle.ips_repo.specs.Manifest.{manifest_limit}
use Rattle.ips_repo.specs.declared.fault.RepoFault.{RepoFault}
use Rattle.ips_repo.specs.declared.fault.RepoFault.TheVariants as repo
use Rattle.ips_state.specs.State.{Installed}
use Rattle.ips_request.specs.declared.kind.Kind.{Kind}
use Rattle.ips_request.specs.declared.kind.Kind.TheVariants.{Install, Update, Uninstall, Keep}
use Rattle.ips_request.specs.declared.fault.ProblemFault.{ProblemFault}
use Rattle.ips_request.specs.declared.fault.ProblemFault.TheVariants as fault
use Rattle.ips_request.specs.Stems.{has}
use Rattle.ips_request.specs.Case.{Case, own}
use Rattle.ips_request.specs.Candidates.{newest, may_come, greatest, is_version}

-- the most bytes of all manifests that a request reads from the repository: 256 MiB
abbrev pub all_manifests_limit : ℕ
all_manifests_limit = 268435456

-- An install or an update reads the greatest version of the catalog, and, unless the stem is rejected, each version that the
-- stem may come to. Uninstalling and keeping read what is installed.
abbrev pub is_needed : Kind → Case → List ℕ → Parts → Bool
is_needed Install c stem v = is_version (greatest c stem) v || (not (has stem c.rejected) && may_come c stem v)
is_needed Update c stem v = is_version (greatest c stem) v || (not (has stem c.rejected) && may_come c stem v)
is_needed Uninstall c stem v = true
is_needed Keep c stem v = true

-- the versions of a stem whose manifests are needed, newest first
abbrev pub needed : Case → List ℕ → List Parts
needed c stem = filter (is_needed c.kind c stem) (newest c stem)

-- A manifest that is needed: that of a version of a stem.
pub record Needed : Type 0 where
  pub stem : List ℕ
  pub version : Parts

-- the bytes of a file, none where there is no file
abbrev pub size_of : Option (List ℕ) → ℕ
size_of None = 0
size_of (Some bytes) = length bytes

-- how many bytes of a file are read, unless the manifest is the image's
abbrev pub manifest_bytes_read : Option Installed → Option (List ℕ) → ℕ
manifest_bytes_read None file = size_of file
manifest_bytes_read (Some p) file = 0

-- how many bytes the manifest takes from the repository
abbrev pub bytes_read : Case → Needed → ℕ
bytes_read c n = manifest_bytes_read (own c n.stem n.version) (c.file n.stem n.version)

-- the name of what a manifest is of: its stem, `@` and its version
abbrev pub name_of : Needed → List ℕ
name_of n = fmri_text (record { publisher = None; stem = n.stem; version = Some n.version })

-- a file of the repository that isn't too large, by itself or behind so many bytes
pub record FitsBehind (total : ℕ) (bytes : List ℕ) : Type 0 where
  pub alone : length bytes ≤ manifest_limit
  pub behind : total + length bytes ≤ all_manifests_limit

-- the repository's file of a manifest is too large: by itself, or else behind so many bytes
abbrev pub IsTooLarge : ℕ → List ℕ → Which → ℕ → Type 0
IsTooLarge total bytes which.CatalogBytes count = ⊥
IsTooLarge total bytes which.Stems count = ⊥
IsTooLarge total bytes which.Versions count = ⊥
IsTooLarge total bytes which.ManifestBytes count = (count ≡ length bytes) × (manifest_limit < count)
IsTooLarge total bytes which.AllManifests count = (length bytes ≤ manifest_limit) × (count ≡ total + length bytes) × (all_manifests_limit < count)
IsTooLarge total bytes which.PayloadBytes count = ⊥
IsTooLarge total bytes which.ImageFileBytes count = ⊥
IsTooLarge total bytes which.AccountBytes count = ⊥
IsTooLarge total bytes which.Steps count = ⊥
IsTooLarge total bytes which.Names count = ⊥

-- a file is there, and has this
abbrev pub IsThere : Option (List ℕ) → (List ℕ → Type 0) → Type 0
IsThere None P = ⊥
IsThere (Some bytes) P = P bytes

-- The fault of a manifest that is read from the repository behind so many bytes: missing, too large, no manifest, or with a
-- line that should be a dependency and is none. A failed call says nothing of it.
abbrev pub IsManifestFileFault : Set → ℕ → Option (List ℕ) → List ℕ → ProblemFault → Type 0
IsManifestFileFault settings total file name (fault.NoMatch pattern) = ⊥
IsManifestFileFault settings total file name (fault.Ambiguous pattern stems) = ⊥
IsManifestFileFault settings total file name (fault.ManifestMissing fmri) = (file ≡ None) × (fmri ≡ name)
IsManifestFileFault settings total file name (fault.BadManifest fmri why) = IsThere file (λ bytes. FitsBehind total bytes × IsFaultOf bytes why) × (fmri ≡ name)
IsManifestFileFault settings total file name (fault.BadDepend fmri line) =
    IsThere file (λ bytes. FitsBehind total bytes × ((lines : List Line) × IsManifestOf bytes lines × IsFirstBad settings lines line)) × (fmri ≡ name)
IsManifestFileFault settings total file name (fault.TooLarge which count) = IsThere file (λ bytes. IsTooLarge total bytes which count)
IsManifestFileFault settings total file name fault.SourceFault = Unit {0}

-- the fault of a manifest of the image: one of its lines should be a dependency and is none
abbrev pub IsOwnFault : Set → List Line → List ℕ → ProblemFault → Type 0
IsOwnFault settings lines name (fault.NoMatch pattern) = ⊥
IsOwnFault settings lines name (fault.Ambiguous pattern stems) = ⊥
IsOwnFault settings lines name (fault.ManifestMissing fmri) = ⊥
IsOwnFault settings lines name (fault.BadManifest fmri why) = ⊥
IsOwnFault settings lines name (fault.BadDepend fmri line) = IsFirstBad settings lines line × (fmri ≡ name)
IsOwnFault settings lines name (fault.TooLarge which count) = ⊥
IsOwnFault settings lines name fault.SourceFault = ⊥

-- the fault of the manifest of the image, where it has one, and else of the repository's file
abbrev pub FaultOf : Option Installed → Set → ℕ → Option (List ℕ) → List ℕ → ProblemFault → Type 0
FaultOf None settings total file name why = IsManifestFileFault settings total file name why
FaultOf (Some p) settings total file name why = IsOwnFault settings p.lines name why

-- the fault of a needed manifest that is read behind so many bytes
abbrev pub IsManifestFault : Set → Case → ℕ → Needed → ProblemFault → Type 0
IsManifestFault settings c total n why = FaultOf (own c n.stem n.version) settings total (c.file n.stem n.version) (name_of n) why

-- ---- one manifest of the repository

-- these lines were read of a file, behind so many bytes, and now so many were read
pub record IsFetched (before now : ℕ) (lines : List Line) (bytes : List ℕ) : Type 0 where
  pub fits : FitsBehind before bytes
  pub manifest : IsManifestOf bytes lines
  pub only : (others : List Line) → IsManifestOf bytes others → others ≡ lines
  pub counted : now ≡ before + length bytes

-- The fault of reading the lines of a manifest of the repository.
abbrev pub IsFetchFault : ℕ → Option (List ℕ) → List ℕ → ProblemFault → Type 0
IsFetchFault total file name (fault.NoMatch pattern) = ⊥
IsFetchFault total file name (fault.Ambiguous pattern stems) = ⊥
IsFetchFault total file name (fault.ManifestMissing fmri) = (file ≡ None) × (fmri ≡ name)
IsFetchFault total file name (fault.BadManifest fmri why) = IsThere file (λ bytes. FitsBehind total bytes × IsFaultOf bytes why) × (fmri ≡ name)
IsFetchFault total file name (fault.BadDepend fmri line) = ⊥
IsFetchFault total file name (fault.TooLarge which count) = IsThere file (λ bytes. IsTooLarge total bytes which count)
IsFetchFault total file name fault.SourceFault = Unit {0}

-- a missing manifest, or no memory for its name
abbrev pub IsMissing : List ℕ → Or ProblemFault → Type 0
IsMissing name (Bad (fault.NoMatch pattern)) = ⊥
IsMissing name (Bad (fault.Ambiguous pattern stems)) = ⊥
IsMissing name (Bad (fault.ManifestMissing fmri)) = fmri ≡ name
IsMissing name (Bad (fault.BadManifest fmri why)) = ⊥
IsMissing name (Bad (fault.BadDepend fmri line)) = ⊥
IsMissing name (Bad (fault.TooLarge which count)) = ⊥
IsMissing name (Bad fault.SourceFault) = ⊥
IsMissing name OutOfMemory = Unit {0}

-- the fault of reading the bytes of a manifest, as one of the problem
abbrev pub IsUnread : RepoFault → List ℕ → Or ProblemFault → Type 0
IsUnread repo.NoRepository name why = IsMissing name why
IsUnread (repo.BadCatalog c) name why = IsMissing name why
IsUnread repo.ManifestMissing name why = IsMissing name why
IsUnread (repo.BadManifest fault) name why = IsMissing name why
IsUnread repo.PayloadMissing name why = IsMissing name why
IsUnread (repo.PayloadDamaged found) name why = IsMissing name why
IsUnread (repo.Compressed found) name why = IsMissing name why
IsUnread (repo.TooLarge which count) name why = why ≡ Bad (fault.TooLarge which count)
IsUnread repo.SourceFault name why = why ≡ Bad fault.SourceFault
