-- What an index holds: the scan of packages.
use Rattle.std.specs.Prelude.{◌≢◌, ◌⊎◌, ◌↔◌, Contains, ℕ, not, List, ◌∷◌, filter}
use Rattle.std.specs.List.{flat_map}
use Rattle.std.specs.List.Sorted.{IsStrictlySortedBy}
use Rattle.std.specs.Str.{chars}
use Rattle.ips_fmri.specs.Pattern.{Matches}
use Rattle.ips_action.specs.Attrs.{is_same}
use Rattle.ips_action.specs.Action.{Fields}
use Rattle.ips_index.specs.Rows.{IndexedValue, row_cmp, scanned}

-- A package: its stem and its actions.
pub record Scanned : Type 0 where
  pub stem : List ℕ
  pub actions : List Fields

-- The rows are the scan of the packages: all rows of all their actions, each once, in order.
pub record IsScan (packages : List Scanned) (rows : List IndexedValue) : Type 0 where
  pub ascend : IsStrictlySortedBy row_cmp rows
  pub each : (row : IndexedValue) → Contains rows row ↔ Contains (flat_map (λ (p : Scanned). scanned p.stem p.actions) packages) row

-- the packages without those of the stem
abbrev pub without : List ℕ → List Scanned → List Scanned
without stem packages = filter (λ (p : Scanned). not (is_same p.stem stem)) packages

-- the packages, where the stem has these actions and no others
abbrev pub with_stem : List ℕ → List Fields → List Scanned → List Scanned
with_stem stem actions packages = record { stem = stem; actions = actions } ∷ without stem packages

-- Of the rows those that are of other stems are left.
abbrev pub IsDropped : List ℕ → List IndexedValue → List IndexedValue → Type 0
IsDropped stem old new = (row : IndexedValue) → Contains new row ↔ (Contains old row × (row.stem ≢ stem))

-- The stem's rows are replaced by these.
abbrev pub IsPut : List ℕ → List IndexedValue → List IndexedValue → List IndexedValue → Type 0
IsPut stem rows old new = (row : IndexedValue) → Contains new row ↔ (Contains rows row ⊎ (Contains old row × (row.stem ≢ stem)))

-- The rows found are those whose token the pattern matches, in order; `*` stands for any text, and `?` for any one character.
pub record AreFound (pattern : List ℕ) (rows found : List IndexedValue) : Type 0 where
  pub ascend : IsStrictlySortedBy row_cmp found
  pub each : (row : IndexedValue) → Contains found row ↔ (Contains rows row × Matches (chars pattern) (chars row.token))
