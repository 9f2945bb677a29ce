-- Case tables: rows of sets, of which each key falls under one.
use Rattle.std.specs.Prelude.{◌≡◌, ℕ, ◌<◌, ◌≤◌, ◌⊎◌, Bool, ◌==◌, ◌&&◌, List, length, slice_index, count_by, find}
use Rattle.std.specs.Option.{option_map_or}
use Rattle.std.specs.Int.{bit_at}
use Rattle.ips_cases.specs.declared.row.Row.{Row}

-- a number is in the set whose bits are these
abbrev pub has : ℕ → ℕ → Bool
has set n = bit_at set n == 1

-- the row meets the key: each of the key's four numbers is in the row's set at that place
abbrev pub meets : List ℕ → Row → Bool
meets key row =
    has (slice_index row.sets 0) (slice_index key 0) && has (slice_index row.sets 1) (slice_index key 1)
    && has (slice_index row.sets 2) (slice_index key 2) && has (slice_index row.sets 3) (slice_index key 3)

-- a key below the sizes: four numbers, each less than the size at its place
pub record IsKey (sizes key : List ℕ) : Type 0 where
  pub places : length key ≡ 4
  pub below : (place : ℕ) → place < 4 → slice_index key place < slice_index sizes place

-- numbers that are places of bits in a set
abbrev pub AreBits : List ℕ → Type 0
AreBits key = (place : ℕ) → place < 4 → slice_index key place < 32

-- each size is 1 to 32, so that the numbers below it have bits in a set
abbrev pub AreSizes : List ℕ → Type 0
AreSizes sizes = (place : ℕ) → place < 4 → (1 ≤ slice_index sizes place) × (slice_index sizes place ≤ 32)

-- how many rows meet the key
abbrev pub meeting : List Row → List ℕ → ℕ
meeting rows key = count_by (meets key) rows

-- each key below the sizes is met by just one row
abbrev pub IsTable : List Row → List ℕ → Type 0
IsTable rows sizes = (key : List ℕ) → IsKey sizes key → meeting rows key ≡ 1

-- some key below the sizes is met by no row or by two
abbrev pub HasBadKey : List Row → List ℕ → Type 0
HasBadKey rows sizes = (key : List ℕ) × IsKey sizes key × ((meeting rows key ≡ 0) ⊎ (2 ≤ meeting rows key))

-- the value of the row that meets the key
abbrev pub value_at : List Row → List ℕ → ℕ
value_at rows key = option_map_or (λ row. row.value) (find (meets key) rows) 0

-- what a table is: its rows, and the sizes of its four places
pub record Table : Type 0 where
  pub rows : List Row
  pub sizes : List ℕ
