-- The value of a facet: that of the longest pattern that matches its name.
use Rattle.std.specs.Prelude.{◌≡◌, ◌≢◌, ◌⊎◌, ℕ, ◌<◌, Bool, true, List, length, Option, Some, None}
use Rattle.std.specs.declared.cmp.Ordering.TheVariants.{Greater}
use Rattle.std.specs.Str.{chars}
use Rattle.std.specs.Ordering.{nat_cmp}
use Rattle.std.specs.Cmp.Lexicographic.{slice_cmp}
use Rattle.ips_fmri.specs.Pattern.{MatchesStars}
use Rattle.ips_filter.specs.Settings.{Set, value_at}

-- The first pattern is longer, or as long and not greater by its bytes.
abbrev pub Outranks : List ℕ → List ℕ → Type 0
Outranks p q = (length q < length p) ⊎ ((length p ≡ length q) × (slice_cmp nat_cmp p q ≢ Greater))

-- A pattern matches a facet's name: `*` stands for any text.
abbrev pub IsMet : List ℕ → List ℕ → Type 0
IsMet pattern name = MatchesStars (chars pattern) (chars name)

-- This pattern gives the facet its value: it is set, it matches, and it outranks each other one that matches.
pub record Decides (s : Set) (name pattern : List ℕ) (on : Bool) : Type 0 where
  pub set : value_at s.facets pattern ≡ Some on
  pub matches : IsMet pattern name
  pub first : (other : List ℕ) (value : Bool) → value_at s.facets other ≡ Some value → IsMet other name → Outranks pattern other

-- A pattern matches the facet and is longer than the one that was found, if any.
abbrev pub IsLongerMatch : Option (List ℕ × Bool) → List ℕ → List ℕ → Type 0
IsLongerMatch None pattern name = IsMet pattern name
IsLongerMatch (Some found) pattern name = (length found.0 < length pattern) × IsMet pattern name

-- No pattern that is set matches the facet.
abbrev pub IsFree : Set → List ℕ → Type 0
IsFree s name = (pattern : List ℕ) (value : Bool) → value_at s.facets pattern ≡ Some value → IsMet pattern name → ⊥

-- The facet has this value: that of the pattern that decides it, or true where none matches.
abbrev pub HasFacet : Set → List ℕ → Bool → Type 0
HasFacet s name on = ((pattern : List ℕ) × Decides s name pattern on) ⊎ (IsFree s name × (on ≡ true))
