-- Which actions an image takes: those whose tags are as the image has variants and facets set.
use Rattle.std.specs.Prelude.{◌≡◌, ◌⊎◌, ◌==◌, ◌&&◌, ℕ, Bool, true, List, codes}
use Rattle.std.specs.List.{starts_with, list_any, list_all}
use Rattle.std.specs.Str.{bytes_eq}
use Rattle.ips_action.specs.Attrs.{values_of}
use Rattle.ips_action.specs.Judging.{is_facet}
use Rattle.ips_action.specs.Attrs.{Attr}
use Rattle.ips_filter.specs.Settings.{Set, variant_value}
use Rattle.ips_filter.specs.Facet.{HasFacet}

-- The key is that of a variant's tag: it begins with `variant.`.
abbrev pub is_variant : List ℕ → Bool
is_variant key = starts_with ◌==◌ key (codes "variant.")

-- The value is one of these.
abbrev pub has_value : List (List ℕ) → List ℕ → Bool
has_value values value = list_any (bytes_eq value) values

-- The attribute is no variant's tag, or each of its values is the one that the variant has.
abbrev pub MeetsVariant : Set → Attr → Type 0
MeetsVariant s attr = is_variant attr.key ≡ true → list_all (bytes_eq (variant_value s attr.key)) attr.values ≡ true

-- The attribute is a facet's tag with this value.
abbrev pub is_tag : Attr → List ℕ → Bool
is_tag attr value = is_facet attr.key && has_value attr.values value

-- The attribute is no facet's tag `all`, or the facet is on.
abbrev pub MeetsAll : Set → Attr → Type 0
MeetsAll s attr = is_tag attr (codes "all") ≡ true → HasFacet s attr.key true

-- Among the attributes stands the key with this value.
abbrev pub HasTag : List Attr → List ℕ → List ℕ → Type 0
HasTag attrs key value = has_value (values_of key attrs) value ≡ true

-- Each value of a variant's tag is the value that the variant has.
abbrev pub MeetsVariants : Set → List Attr → Type 0
MeetsVariants s attrs = (key value : List ℕ) → is_variant key ≡ true → HasTag attrs key value → variant_value s key ≡ value

-- Each facet whose tag is `all` is on.
abbrev pub MeetsAllFacets : Set → List Attr → Type 0
MeetsAllFacets s attrs = (key : List ℕ) → is_facet key ≡ true → HasTag attrs key (codes "all") → HasFacet s key true

-- A facet has a tag `true`.
abbrev pub IsTrueTag : List Attr → List ℕ → Type 0
IsTrueTag attrs key = (is_facet key ≡ true) × HasTag attrs key (codes "true")

-- One of the facets whose tag is `true` is on, if there are any.
abbrev pub MeetsSomeFacet : Set → List Attr → Type 0
MeetsSomeFacet s attrs = ((key : List ℕ) → IsTrueTag attrs key → ⊥) ⊎ ((key : List ℕ) × IsTrueTag attrs key × HasFacet s key true)

-- An action with these attributes is taken: by its variants, and by its facets of both kinds of tag.
pub record Admits (s : Set) (attrs : List Attr) : Type 0 where
  pub variants : MeetsVariants s attrs
  pub all_facets : MeetsAllFacets s attrs
  pub some_facet : MeetsSomeFacet s attrs
