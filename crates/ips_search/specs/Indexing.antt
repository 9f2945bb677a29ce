-- Where the tests of a puzzle are found by their last stem.
use Rattle.std.specs.Prelude.{◌≡◌, ℕ, ◌+◌, ◌-◌, ◌<◌, ◌≤◌, [], ◌∷◌, ◌++◌, length, slice_index, slice_set}
use Rattle.ips_refute.specs.Meaning.{Meaning}
use Rattle.ips_search.specs.declared.chains.Chains.{Chains}

-- one more than the greatest test below n that ends at the stem, or 0 where there is none
pub record IsCursor (m : Meaning) (stem n cursor : ℕ) : Type 0 where
  pub within : cursor ≤ n
  pub ends : 0 < cursor → m.last (cursor - 1) ≡ stem
  pub none : (t : ℕ) → cursor ≤ t → t < n → m.last t ≡ stem → ⊥

-- the first tests, so many, are found by their last stem
pub record IsIndexedTo (m : Meaning) (count : ℕ) (tests : Chains) : Type 0 where
  pub stems : length tests.heads.items ≡ m.stems
  pub counted : length tests.links.items ≡ count
  pub heads : (s : ℕ) → s < m.stems → IsCursor m s count (slice_index tests.heads.items s)
  pub links : (t : ℕ) → t < count → IsCursor m (m.last t) t (slice_index tests.links.items t)

-- all tests are found by their last stem
abbrev pub IsIndexed : Meaning → Chains → Type 0
IsIndexed m tests = IsIndexedTo m m.tests tests

-- the next number stands at the stem, in front of those that stood there
pub record IsPut (before after : Chains) (stem : ℕ) : Type 0 where
  pub links : after.links.items ≡ before.links.items ++ slice_index before.heads.items stem ∷ []
  pub heads : after.heads.items ≡ slice_set before.heads.items stem (length before.links.items + 1)
