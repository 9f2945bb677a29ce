-- Whether an image takes an action is decided.
use Rattle.std.proofs.Common.{◌≡◌, ◌⊎◌, inl, inr, ℕ, Bool, true, false, ◌||◌, cond, List, [], ◌∷◌, refl, sym, ap, ◌∙◌, subst}
use Rattle.std.specs.Prelude.{codes}
use Rattle.std.specs.Str.{bytes_eq}
use Rattle.std.specs.List.{AllByRecursion}
use Rattle.std.proofs.lemmas.Bool.{true≢false, or_cases}
use Rattle.std.proofs.lemmas.Slice.Eq.{bytes_eq-Decides}
use Rattle.ips_action.specs.Attrs.{Attr}
use Rattle.ips_action.specs.Attrs.{is_same, values_of}
use Rattle.ips_action.specs.Judging.{is_facet}
use Rattle.ips_action.proofs.KeyOrder.{same_true}
use Rattle.ips_filter.specs.Settings.{Set, variant_value}
use Rattle.ips_filter.specs.Facet.{HasFacet}
use Rattle.ips_filter.specs.Admitted.{is_variant, has_value, HasTag, MeetsVariants, MeetsAllFacets, IsTrueTag, MeetsSomeFacet, Admits}
use Rattle.ips_grammar.proofs.Decided.{Decided, with_it, both, either, unless, where_so, unrefuted, is_true, same_bytes, one_of}
use Rattle.ips_grammar.proofs.Facets.{has_facet}
use Rattle.ips_text.proofs.Truths.{or_true}

-- ---- keys of attributes

-- what holds of all keys that stand, and of each that doesn't, holds of each key
key_stands : (P : List ℕ → Type 0) (attrs : List Attr) (key : List ℕ) → AllByRecursion (λ (a : Attr). P a.key) attrs → (values_of key attrs ≡ [] → P key) → P key
key_stands P [] key all none = none refl
key_stands P (a ∷ attrs) key all none = go (key_stands P attrs key all.1) (is_same a.key key) refl
  where
    go : ((values_of key attrs ≡ [] → P key) → P key) → (t : Bool) → is_same a.key key ≡ t → P key
    go rest true same = subst P (same_true a.key key same) all.0
    go rest false other = rest (λ empty. none (ap (λ (t : Bool). cond t a.values (values_of key attrs)) other ∙ empty))

some_key : (attrs : List Attr) (P : List ℕ → Type 0) → ((key : List ℕ) → Decided (P key)) → ((key : List ℕ) → values_of key attrs ≡ [] → P key → ⊥) → Decided ((key : List ℕ) × P key)
some_key attrs P decide never = go (one_of (λ (a : Attr). P a.key) (λ a. decide a.key) attrs)
  where
    go : ((a : Attr) × P a.key) ⊎ AllByRecursion (λ (a : Attr). P a.key → ⊥) attrs → Decided ((key : List ℕ) × P key)
    go (inl found) = inl (found.0.key, found.1)
    go (inr none) = inr (λ w. key_stands (λ key. P key → ⊥) attrs w.0 none (never w.0) w.1)

every_key : (attrs : List Attr) (P : List ℕ → Type 0) → ((key : List ℕ) → Decided (P key)) → ((key : List ℕ) → values_of key attrs ≡ [] → P key) → Decided ((key : List ℕ) → P key)
every_key attrs P decide always = go (some_key attrs (λ key. P key → ⊥) (λ key. unless (decide key)) (λ key empty no. no (always key empty)))
  where
    go : Decided ((key : List ℕ) × (P key → ⊥)) → Decided ((key : List ℕ) → P key)
    go (inl w) = inr (λ h. w.1 (h w.0))
    go (inr none) = inl (λ key. unrefuted (decide key) (λ no. none (key, no)))

-- ---- values of a key

no_value : (values : List (List ℕ)) (value : List ℕ) → values ≡ [] → has_value values value ≡ true → ⊥
no_value values value empty has = true≢false (sym has ∙ ap (λ (l : List (List ℕ)). has_value l value) empty)

value_first : (Q : List ℕ → Type 0) (v : List ℕ) (values : List (List ℕ)) → Q v × ((value : List ℕ) → has_value values value ≡ true → Q value) → (value : List ℕ) → has_value (v ∷ values) value ≡ true → Q value
value_first Q v values h value has = elim (or_cases (bytes_eq value v) (has_value values value) has) [
  | inl same ↦ subst Q (sym ((bytes_eq-Decides value v).0 same)) h.0
  | inr later ↦ h.1 value later
]

every_value : (Q : List ℕ → Type 0) → ((value : List ℕ) → Decided (Q value)) → (values : List (List ℕ)) → Decided ((value : List ℕ) → has_value values value ≡ true → Q value)
every_value Q decide [] = inl (λ value has. absurd (true≢false (sym has)))
every_value Q decide (v ∷ values) =
    with_it (Q v × ((value : List ℕ) → has_value values value ≡ true → Q value)) ((value : List ℕ) → has_value (v ∷ values) value ≡ true → Q value)
    (value_first Q v values)
    (λ h. (h v (ap (λ (b : Bool). b || has_value values v) ((bytes_eq-Decides v v).1 refl)), λ value has. h value (ap (λ (b : Bool). bytes_eq value v || b) has ∙ or_true (bytes_eq value v))))
    (both (decide v) (every_value Q decide values))

has_tag : (attrs : List Attr) (key value : List ℕ) → Decided (HasTag attrs key value)
has_tag attrs key value = is_true (has_value (values_of key attrs) value)

-- ---- tags

abbrev VariantMet : Set → List Attr → List ℕ → Type 0
VariantMet s attrs key = is_variant key ≡ true → (value : List ℕ) → HasTag attrs key value → variant_value s key ≡ value

variants_met : (s : Set) (attrs : List Attr) → Decided (MeetsVariants s attrs)
variants_met s attrs =
    with_it ((key : List ℕ) → VariantMet s attrs key) (MeetsVariants s attrs) (λ h key value is has. h key is value has) (λ h key is value has. h key value is has)
    (every_key attrs (VariantMet s attrs) (λ key. where_so (is_true (is_variant key)) (every_value (λ value. variant_value s key ≡ value) (λ value. same_bytes (variant_value s key) value) (values_of key attrs)))
    (λ key empty is value has. absurd (no_value (values_of key attrs) value empty has)))

all_met : (s : Set) (attrs : List Attr) → Decided (MeetsAllFacets s attrs)
all_met s attrs =
    every_key attrs (λ key. is_facet key ≡ true → HasTag attrs key (codes "all") → HasFacet s key true)
    (λ key. where_so (is_true (is_facet key)) (where_so (has_tag attrs key (codes "all")) (has_facet s key)))
    (λ key empty is has. absurd (no_value (values_of key attrs) (codes "all") empty has))

true_tag : (attrs : List Attr) (key : List ℕ) → Decided (IsTrueTag attrs key)
true_tag attrs key = both (is_true (is_facet key)) (has_tag attrs key (codes "true"))

some_met : (s : Set) (attrs : List Attr) → Decided (MeetsSomeFacet s attrs)
some_met s attrs =
    either
    (every_key attrs (λ key. IsTrueTag attrs key → ⊥) (λ key. unless (true_tag attrs key)) (λ key empty tag. no_value (values_of key attrs) (codes "true") empty tag.1))
    (with_it ((key : List ℕ) × (IsTrueTag attrs key × HasFacet s key true)) ((key : List ℕ) × IsTrueTag attrs key × HasFacet s key true) (λ w. (w.0, w.1.0, w.1.1)) (λ w. (w.0, (w.1, w.2)))
    (some_key attrs (λ key. IsTrueTag attrs key × HasFacet s key true) (λ key. both (true_tag attrs key) (has_facet s key)) (λ key empty h. no_value (values_of key attrs) (codes "true") empty h.0.1)))

pub admits : (s : Set) (attrs : List Attr) → Decided (Admits s attrs)
admits s attrs =
    with_it (MeetsVariants s attrs × (MeetsAllFacets s attrs × MeetsSomeFacet s attrs)) (Admits s attrs)
    (λ h. record { variants = h.0; all_facets = h.1.0; some_facet = h.1.1 }) (λ a. (a.variants, (a.all_facets, a.some_facet)))
    (both (variants_met s attrs) (both (all_met s attrs) (some_met s attrs)))
