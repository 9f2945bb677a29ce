-- What the repository of a publisher is: its mark, and its catalog within the limits.
use Rattle.std.specs.Prelude.{ℕ, ◌<◌, ◌≤◌, nat_lt, if◌then◌else◌, List, length, Option, Some, None, Result, Ok, Err}
use Rattle.ips_text.specs.declared.limits.Which.{Which}
use Rattle.ips_text.specs.declared.limits.Which.TheVariants as which
use Rattle.ips_outside.specs.Image.{Image}
use Rattle.ips_catalog.specs.Listed.{Listed, IsInOrder, count_of}
use Rattle.ips_catalog.specs.Reading.{read_catalog}
use Rattle.ips_catalog.specs.declared.fault.CatalogFault.{CatalogFault}
use Rattle.ips_catalog.specs.declared.fault.CatalogFault.TheVariants.{NotJson}
use Rattle.ips_files.specs.Files.{file_at}
use Rattle.ips_repo.specs.Places.{catalog_place}
use Rattle.ips_repo.specs.Mark.{is_repository}
use Rattle.ips_files.specs.declared.reading.FileFault.{FileFault}
use Rattle.ips_files.specs.declared.reading.FileFault.TheVariants as file
use Rattle.ips_repo.specs.declared.fault.RepoFault.{RepoFault}
use Rattle.ips_repo.specs.declared.fault.RepoFault.TheVariants as fault

-- the most bytes that a catalog file may have: 64 MiB
abbrev pub catalog_limit : ℕ
catalog_limit = 67108864

-- the most stems that a catalog may list
abbrev pub stem_limit : ℕ
stem_limit = 20000

-- the most versions that a catalog may list, of all stems together
abbrev pub version_limit : ℕ
version_limit = 200000

-- the catalog, where it lists no more stems, and then no more versions, than the limits
abbrev pub within_limits : List Listed → Result (List Listed) RepoFault
within_limits catalog =
    if nat_lt stem_limit (length catalog)
    then Err (fault.TooLarge which.Stems (length catalog))
    else (if nat_lt version_limit (count_of catalog) then Err (fault.TooLarge which.Versions (count_of catalog)) else Ok catalog)

-- the catalog that was read, within the limits, or why none was
abbrev pub limited : Result (List Listed) CatalogFault → Result (List Listed) RepoFault
limited (Ok catalog) = within_limits catalog
limited (Err why) = Err (fault.BadCatalog why)

-- the catalog of a publisher in this file: an absent file is no JSON text, and the size of the file is judged first
abbrev pub catalog_in : List ℕ → Option (List ℕ) → Result (List Listed) RepoFault
catalog_in publisher None = Err (fault.BadCatalog NotJson)
catalog_in publisher (Some bytes) =
    if nat_lt catalog_limit (length bytes)
    then Err (fault.TooLarge which.CatalogBytes (length bytes))
    else limited (read_catalog publisher bytes)

-- what opening the repository of a publisher means: the mark is judged first, then the catalog
abbrev pub opening : List ℕ → Image → Result (List Listed) RepoFault
opening publisher t =
    if is_repository t
    then catalog_in publisher (file_at t (catalog_place publisher))
    else Err fault.NoRepository

-- A repository that was opened: its publisher, and the publisher's catalog.
pub record Opened : Type 0 where
  pub publisher : List ℕ
  pub catalog : List Listed

-- The catalog is in order, and within the limits on stems and versions.
pub record IsOffered (catalog : List Listed) : Type 0 where
  pub ordered : IsInOrder catalog
  pub few_stems : length catalog ≤ stem_limit
  pub few_versions : count_of catalog ≤ version_limit

-- so many are too many under the limit of a catalog
abbrev pub PassesLimit : Which → ℕ → Type 0
PassesLimit which.CatalogBytes count = catalog_limit < count
PassesLimit which.Stems count = stem_limit < count
PassesLimit which.Versions count = version_limit < count
PassesLimit which.ManifestBytes count = ⊥
PassesLimit which.AllManifests count = ⊥
PassesLimit which.PayloadBytes count = ⊥
PassesLimit which.ImageFileBytes count = ⊥
PassesLimit which.AccountBytes count = ⊥
PassesLimit which.Steps count = ⊥
PassesLimit which.Names count = ⊥

-- The faults of opening a repository: no mark, a bad catalog, a limit of the catalog passed, or a call that failed.
abbrev pub IsOpeningFault : RepoFault → Type 0
IsOpeningFault fault.NoRepository = Unit {0}
IsOpeningFault (fault.BadCatalog why) = Unit {0}
IsOpeningFault fault.ManifestMissing = ⊥
IsOpeningFault (fault.BadManifest why) = ⊥
IsOpeningFault fault.PayloadMissing = ⊥
IsOpeningFault (fault.PayloadDamaged found) = ⊥
IsOpeningFault (fault.Compressed found) = ⊥
IsOpeningFault (fault.TooLarge limit count) = PassesLimit limit count
IsOpeningFault fault.SourceFault = Unit {0}

-- the fault of reading the catalog by the fault of reading its file
abbrev pub fault_of_catalog : FileFault → RepoFault
fault_of_catalog file.Missing = fault.BadCatalog NotJson
fault_of_catalog (file.TooLarge count) = fault.TooLarge which.CatalogBytes count
fault_of_catalog file.SourceFault = fault.SourceFault
