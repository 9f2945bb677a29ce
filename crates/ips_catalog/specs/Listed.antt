-- What a catalog holds: packages by their stems, each with its versions.
use Rattle.std.specs.Prelude.{ℕ, List, [], ◌∷◌, map, length, sum_by, if◌then◌else◌}
use Rattle.std.specs.List.{AllByRecursion}
use Rattle.std.specs.List.Sorted.{IsStrictlySortedBy}
use Rattle.std.specs.Ordering.{nat_cmp, is_eq}
use Rattle.std.specs.Cmp.Lexicographic.{slice_cmp}
use Rattle.ips_fmri.specs.Version.{Parts}
use Rattle.ips_fmri.specs.Order.{version_cmp}

-- a package as a catalog lists it: its stem, and its versions
pub record Listed : Type 0 where
  pub stem : List ℕ
  pub versions : List Parts

-- the stems ascend by their bytes, so that none stands twice
abbrev pub StemsAscend : List Listed → Type 0
StemsAscend catalog = IsStrictlySortedBy (slice_cmp nat_cmp) (map (λ listed. listed.stem) catalog)

-- the versions of each package ascend, so that none stands twice
abbrev pub VersionsAscend : List Listed → Type 0
VersionsAscend catalog = AllByRecursion (λ listed. IsStrictlySortedBy version_cmp listed.versions) catalog

-- the packages are in the order of a catalog
pub record IsInOrder (catalog : List Listed) : Type 0 where
  pub stems : StemsAscend catalog
  pub versions : VersionsAscend catalog

-- the versions of the package with this stem, none where it isn't listed
abbrev pub versions_of : List Listed → List ℕ → List Parts
versions_of [] stem = []
versions_of (listed ∷ catalog) stem =
    if is_eq (slice_cmp nat_cmp listed.stem stem)
    then listed.versions
    else versions_of catalog stem

-- how many versions all the packages have together
abbrev pub count_of : List Listed → ℕ
count_of catalog = sum_by (λ listed. length listed.versions) catalog
