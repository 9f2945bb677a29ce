-- The records of an image that is made.
use Rattle.std.specs.Prelude.{◌≡◌, ℕ, List, [], Option, None}
use Rattle.ips_filter.specs.Settings.{IsSet, value_at}
use Rattle.ips_state.specs.State.{Recorded}
use Rattle.ips_syntax.specs.declared.values.VariantWord.{VariantWord}
use Rattle.ips_syntax.specs.declared.values.FacetWord.{FacetWord}
use Rattle.ips_asked.specs.Set.{facet_behind, variant_behind}

-- A new image has its publisher, variants, facets and actuator word, in the second format, and nothing else.
pub record IsFounded (publisher : List ℕ) (variants : List VariantWord) (facets : List FacetWord) (actuator : Option (List ℕ)) (new : Recorded) : Type 0 where
  pub format : new.format ≡ 2
  pub publisher_is : new.publisher ≡ publisher
  pub origins : new.origins ≡ []
  pub actuator_is : new.actuator ≡ actuator
  pub ordered : IsSet new.settings
  pub variants_are : (name : List ℕ) → value_at new.settings.variants name ≡ variant_behind name None variants
  pub facets_are : (name : List ℕ) → value_at new.settings.facets name ≡ facet_behind name None facets
  pub installed : new.installed ≡ []
  pub avoid : new.avoid ≡ []
  pub freeze : new.freeze ≡ []
  pub mediators : new.mediators ≡ []
  pub history : new.history ≡ []
  pub index : new.index ≡ None
