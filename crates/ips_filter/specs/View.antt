-- How the settings' maps are seen.
use Rattle.std.specs.Prelude.{ℕ, Bool, List, map, string_bytes, Option}
use denote.Ref.{Bor}
use Rattle.std.specs.Option.{option_map}
use Rattle.std.specs.BTreeMap.{BTreeMap, IsOrdered}
use Rattle.std.specs.String.{string_cmp}
use Rattle.std.specs.declared.alloc.Global.{Global}
use Rattle.std.specs.declared.string.String.{String}

-- the names and values of variants
abbrev pub variants_of : BTreeMap (String Global) (String Global) → List (List ℕ × List ℕ)
variants_of m = map (λ e. (string_bytes e.0, string_bytes e.1)) m.entries

-- the patterns and values of facets
abbrev pub facets_of : BTreeMap (String Global) Bool → List (List ℕ × Bool)
facets_of m = map (λ e. (string_bytes e.0, e.1)) m.entries

-- the keys of a map ascend
abbrev pub InOrder : {X : Type 0} → BTreeMap (String Global) X → Type 0
InOrder m = IsOrdered string_cmp m

-- the pattern that was found, and its value
abbrev pub found_pattern : Option (Bor (List ℕ) × Bool) → Option (List ℕ × Bool)
found_pattern found = option_map (λ x. (x.0.now, x.1)) found

-- names and values that were lent, as they are
abbrev pub named : List (Bor (List ℕ) × Bor (List ℕ)) → List (List ℕ × List ℕ)
named all = map (λ x. (x.0.now, x.1.now)) all

-- patterns that were lent, and their values, as they are
abbrev pub switched : List (Bor (List ℕ) × Bool) → List (List ℕ × Bool)
switched all = map (λ x. (x.0.now, x.1)) all
