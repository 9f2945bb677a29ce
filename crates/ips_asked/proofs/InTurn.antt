-- Variants and facets that words set in turn.
use Rattle.std.proofs.Common.{◌≡◌, ℕ, ◌+◌, ◌<◌, Bool, true, false, if◌then◌else◌, List, [], ◌∷◌, ◌++◌, take, length, get_or, Option, Some, refl, sym, ap, ◌∙◌, bytes_eq}
use Rattle.std.proofs.lemmas.Bool.{true≢false}
use Rattle.std.proofs.lemmas.Slice.Eq.{bytes_eq-Decides}
use Rattle.ips_text.proofs.Lists.{take_item}
use Rattle.ips_filter.specs.Settings.{value_at, Sets}
use Rattle.ips_syntax.specs.declared.values.VariantWord.{VariantWord}
use Rattle.ips_syntax.specs.declared.values.FacetWord.{FacetWord}
use Rattle.ips_asked.specs.Set.{facet_behind, variant_behind}

module _ {V : Type 0} where
  -- what stands at each name once one is set
  pub set_to : (name own : List ℕ) (value : Option V) (old new : List (List ℕ × V)) (q : List ℕ) → name ≡ own → Sets name value old new
      → value_at new q ≡ (if bytes_eq own q then value else value_at old q)
  set_to name own value old new q is sets = go (bytes_eq own q) refl
    where
      go : (b : Bool) → bytes_eq own q ≡ b → value_at new q ≡ (if b then value else value_at old q)
      go true e = ap (value_at new) (sym (is ∙ (bytes_eq-Decides own q).0 e)) ∙ sets.this
      go false e = sets.others q (λ same. true≢false (sym ((bytes_eq-Decides own q).1 (sym is ∙ sym same)) ∙ e))

facet_last : (name : List ℕ) (before : Option Bool) (words : List FacetWord) (w : FacetWord) → facet_behind name before (words ++ w ∷ []) ≡ (if bytes_eq w.name name then w.on else facet_behind name before words)
facet_last name before [] w = refl
facet_last name before (v ∷ words) w = facet_last name (if bytes_eq v.name name then v.on else before) words w

-- one word more
pub facet_more : (name : List ℕ) (before : Option Bool) (words : List FacetWord) (i : ℕ) (w : FacetWord) (own : List ℕ) (old new : List (List ℕ × Bool)) → i < length words → w ≡ get_or words i w
    → own ≡ w.name → Sets own w.on old new → value_at old name ≡ facet_behind name before (take i words) → value_at new name ≡ facet_behind name before (take (i + 1) words)
facet_more name before words i w own old new l at is sets was =
    set_to own w.name w.on old new name is sets ∙ ap (λ o. if bytes_eq w.name name then w.on else o) was
    ∙ sym (ap (facet_behind name before) (take_item words i w l at) ∙ facet_last name before (take i words) w)

variant_last : (name : List ℕ) (before : Option (List ℕ)) (words : List VariantWord) (w : VariantWord)
    → variant_behind name before (words ++ w ∷ []) ≡ (if bytes_eq w.name name then Some w.value else variant_behind name before words)
variant_last name before [] w = refl
variant_last name before (v ∷ words) w = variant_last name (if bytes_eq v.name name then Some v.value else before) words w

-- one word more
pub variant_more : (name : List ℕ) (before : Option (List ℕ)) (words : List VariantWord) (i : ℕ) (w : VariantWord) (own value : List ℕ) (old new : List (List ℕ × List ℕ)) → i < length words
    → w ≡ get_or words i w → own ≡ w.name → value ≡ w.value → Sets own (Some value) old new → value_at old name ≡ variant_behind name before (take i words)
    → value_at new name ≡ variant_behind name before (take (i + 1) words)
variant_more name before words i w own value old new l at is here sets was =
    set_to own w.name (Some value) old new name is sets ∙ ap (λ (v : List ℕ). if bytes_eq w.name name then Some v else value_at old name) here
    ∙ ap (λ o. if bytes_eq w.name name then Some w.value else o) was
    ∙ sym (ap (variant_behind name before) (take_item words i w l at) ∙ variant_last name before (take i words) w)
