-- Variants and facets that are set in turn.
use Rattle.std.specs.Prelude.{◌≡◌, ℕ, Bool, if◌then◌else◌, List, [], ◌∷◌, Option, Some}
use Rattle.std.specs.Str.{bytes_eq}
use Rattle.ips_filter.specs.Settings.{Set, IsSet, value_at}
use Rattle.ips_syntax.specs.declared.values.VariantWord.{VariantWord}
use Rattle.ips_syntax.specs.declared.values.FacetWord.{FacetWord}

-- What a facet is set to behind these words, the last of which holds.
abbrev pub facet_behind : List ℕ → Option Bool → List FacetWord → Option Bool
facet_behind name before [] = before
facet_behind name before (w ∷ words) = facet_behind name (if bytes_eq w.name name then w.on else before) words

-- What a variant is set to behind these words, the last of which holds.
abbrev pub variant_behind : List ℕ → Option (List ℕ) → List VariantWord → Option (List ℕ)
variant_behind name before [] = before
variant_behind name before (w ∷ words) = variant_behind name (if bytes_eq w.name name then Some w.value else before) words

-- The facets are set as these words say, and no variant is set otherwise.
pub record AreFacetsSet (words : List FacetWord) (old new : Set) : Type 0 where
  pub ordered : IsSet new
  pub facets : (name : List ℕ) → value_at new.facets name ≡ facet_behind name (value_at old.facets name) words
  pub variants : new.variants ≡ old.variants

-- The variants are set as these words say, and no facet is set otherwise.
pub record AreVariantsSet (words : List VariantWord) (old new : Set) : Type 0 where
  pub ordered : IsSet new
  pub variants : (name : List ℕ) → value_at new.variants name ≡ variant_behind name (value_at old.variants name) words
  pub facets : new.facets ≡ old.facets
