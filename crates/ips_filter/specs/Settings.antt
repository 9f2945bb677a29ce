-- What an image has set: variants by their names and facets by their patterns.
use Rattle.std.specs.Prelude.{◌≡◌, ◌≢◌, ℕ, Bool, List, Option, unwrap_or, codes}
use Rattle.std.specs.Map.{lookup, keys_of}
use Rattle.std.specs.Str.{bytes_eq}
use Rattle.std.specs.Ordering.{nat_cmp}
use Rattle.std.specs.Cmp.Lexicographic.{slice_cmp}
use Rattle.std.specs.List.Sorted.{IsStrictlySortedBy}

-- What is set: the value of each variant by the variant's name, and each facet, on or off, by its pattern.
pub record Set : Type 0 where
  pub variants : List (List ℕ × List ℕ)
  pub facets : List (List ℕ × Bool)

-- They stand in the order of their names' bytes, each name once.
abbrev pub AreByName : {V : Type 0} → List (List ℕ × V) → Type 0
AreByName settings = IsStrictlySortedBy (slice_cmp nat_cmp) (keys_of settings)

-- Variants and facets each stand in order.
pub record IsSet (s : Set) : Type 0 where
  pub variants : AreByName s.variants
  pub facets : AreByName s.facets

-- What is set at a name, where something is.
abbrev pub value_at : {V : Type 0} → List (List ℕ × V) → List ℕ → Option V
value_at settings name = lookup (bytes_eq name) settings

-- Afterwards this, or nothing, is set at the name, and every other name has what it had.
pub record Sets {V : Type 0} (name : List ℕ) (value : Option V) (old new : List (List ℕ × V)) : Type 0 where
  pub this : value_at new name ≡ value
  pub others : (other : List ℕ) → other ≢ name → value_at new other ≡ value_at old other

-- The value of a variant: `false` where it isn't set.
abbrev pub variant_value : Set → List ℕ → List ℕ
variant_value s name = unwrap_or (value_at s.variants name) (codes "false")
