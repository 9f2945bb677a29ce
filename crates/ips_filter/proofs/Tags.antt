-- The tags of an action, attribute by attribute.
use Rattle.std.proofs.Common.{◌≡◌, ℕ, Bool, true, false, if◌then◌else◌, ◌||◌, ◌&&◌, not, List, [], ◌∷◌, ◌++◌, refl, sym, ap, ◌∙◌, subst, inl, inr, append_assoc}
use Rattle.std.specs.Prelude.{codes}
use Rattle.std.specs.List.{AllByRecursion, list_all}
use Rattle.std.specs.Str.{bytes_eq}
use Rattle.std.proofs.lemmas.List.{append-nil}
use Rattle.std.proofs.lemmas.Bool.{cases_Bool, true≢false}
use Rattle.std.proofs.lemmas.Slice.Eq.{bytes_eq-Decides}
use Rattle.ips_action.specs.Attrs.{is_same, IsBefore, AreAttrs, values_of}
use Rattle.ips_action.specs.Judging.{is_facet}
use Rattle.ips_action.specs.Attrs.{Attr}
use Rattle.ips_filter.specs.Settings.{Set, variant_value}
use Rattle.ips_filter.specs.Facet.{HasFacet}
use Rattle.ips_filter.specs.Admitted.{is_variant, has_value, is_tag, MeetsVariant, MeetsAll, HasTag, MeetsVariants, MeetsAllFacets, IsTrueTag, MeetsSomeFacet}
use Rattle.ips_filter.proofs.Facets.{facet_once, all_weaker, all_end}
use Rattle.ips_text.proofs.Truths.{or_true, both_true}
use Rattle.ips_action.proofs.KeyOrder.{before_other}

and_first : (a b : Bool) → (a && b) ≡ true → a ≡ true
and_first true b h = refl
and_first false b h = h

and_second : (a b : Bool) → (a && b) ≡ true → b ≡ true
and_second true b h = h
and_second false b h = absurd (true≢false (sym h))

-- ---- an attribute at its place

later_at : (front back : List Attr) (attr : Attr) (P : Attr → Type 0) → AllByRecursion P (front ++ attr ∷ back) → P attr
later_at [] back attr P all = all.0
later_at (f ∷ front) back attr P all = later_at front back attr P all.1

-- the values of an attribute's key are its own
pub values_at : (front back : List Attr) (attr : Attr) → AreAttrs (front ++ attr ∷ back) → values_of attr.key (front ++ attr ∷ back) ≡ attr.values
values_at [] back attr are = ap (λ (b : Bool). if b then attr.values else values_of attr.key back) ((bytes_eq-Decides attr.key attr.key).1 refl)
values_at (f ∷ front) back attr are =
    ap (λ (b : Bool). if b then f.values else values_of attr.key (front ++ attr ∷ back)) (before_other f.key attr.key (later_at front back attr (λ (later : Attr). IsBefore f.key later.key) are.1)) ∙ values_at front back attr are.2

-- so a value that it has is a tag
pub tag_at : (front back : List Attr) (attr : Attr) (value : List ℕ) → AreAttrs (front ++ attr ∷ back) → has_value attr.values value ≡ true → HasTag (front ++ attr ∷ back) attr.key value
tag_at front back attr value are has = ap (λ (values : List (List ℕ)). has_value values value) (values_at front back attr are) ∙ has

-- what holds of each attribute's tags holds of each tag
pub tags_all : (P : List ℕ → List ℕ → Type 0) (attrs : List Attr) → AllByRecursion (λ (attr : Attr). (value : List ℕ) → has_value attr.values value ≡ true → P attr.key value) attrs → (key value : List ℕ) → HasTag attrs key value → P key value
tags_all P [] all key value has = absurd (true≢false (sym has))
tags_all P (attr ∷ attrs) all key value has = elim (cases_Bool (is_same attr.key key)) [
  | inl same ↦ subst (λ (k : List ℕ). P k value) ((bytes_eq-Decides attr.key key).0 same) (all.0 value (sym (ap (λ (b : Bool). has_value (if b then attr.values else values_of key attrs) value) same) ∙ has))
  | inr differs ↦ tags_all P attrs all.1 key value (sym (ap (λ (b : Bool). has_value (if b then attr.values else values_of key attrs) value) differs) ∙ has)
]

-- ---- on the way along the attributes

-- P holds of each attribute that stands before those that are left
pub record Passed (P : Attr → Type 0) (attrs left : List Attr) : Type 0 where
  pub front : List Attr
  pub parts : attrs ≡ front ++ left
  pub all : AllByRecursion P front

abbrev pub none_passed : (P : Attr → Type 0) (attrs : List Attr) → Passed P attrs attrs
none_passed P attrs = record { front = []; parts = refl; all = tt }

abbrev pub one_passed : (P : Attr → Type 0) (attrs left rest : List Attr) (attr : Attr) → Passed P attrs left → left ≡ attr ∷ rest → P attr → Passed P attrs rest
one_passed P attrs left rest attr passed next holds = record {
  front = passed.front ++ attr ∷ [];
  parts = passed.parts ∙ ap (λ (l : List Attr). passed.front ++ l) next ∙ sym (append_assoc passed.front (attr ∷ []) rest);
  all = all_end P passed.front attr passed.all holds;
}

-- all attributes were passed
pub all_passed : (P : Attr → Type 0) (attrs left : List Attr) → Passed P attrs left → left ≡ [] → AllByRecursion P attrs
all_passed P attrs left passed none = subst (AllByRecursion P) (sym (passed.parts ∙ ap (λ (l : List Attr). passed.front ++ l) none ∙ append-nil passed.front)) passed.all

pub all_in_front : (P : Attr → Type 0) (attrs left : List Attr) → (passed : Passed P attrs left) → left ≡ [] → passed.front ≡ attrs
all_in_front P attrs left passed none = sym (passed.parts ∙ ap (λ (l : List Attr). passed.front ++ l) none ∙ append-nil passed.front)

-- the attribute that comes next, at its place
pub at_next : (P : Attr → Type 0) (attrs left rest : List Attr) (attr : Attr) → (passed : Passed P attrs left) → left ≡ attr ∷ rest → attrs ≡ passed.front ++ attr ∷ rest
at_next P attrs left rest attr passed next = passed.parts ∙ ap (λ (l : List Attr). passed.front ++ l) next

-- ---- variants

value_of_all : (wanted : List ℕ) (values : List (List ℕ)) (value : List ℕ) → list_all (bytes_eq wanted) values ≡ true → has_value values value ≡ true → wanted ≡ value
value_of_all wanted [] value all has = absurd (true≢false (sym has))
value_of_all wanted (v ∷ values) value all has = elim (cases_Bool (bytes_eq value v)) [
  | inl same ↦ (bytes_eq-Decides wanted v).0 (and_first (bytes_eq wanted v) (list_all (bytes_eq wanted) values) all) ∙ sym ((bytes_eq-Decides value v).0 same)
  | inr differs ↦ value_of_all wanted values value (and_second (bytes_eq wanted v) (list_all (bytes_eq wanted) values) all) (sym (ap (λ (b : Bool). b || has_value values value) differs) ∙ has)
]

all_of_value : (wanted : List ℕ) (values : List (List ℕ)) → ((value : List ℕ) → has_value values value ≡ true → wanted ≡ value) → list_all (bytes_eq wanted) values ≡ true
all_of_value wanted [] each = refl
all_of_value wanted (v ∷ values) each =
    both_true (bytes_eq wanted v) (list_all (bytes_eq wanted) values) ((bytes_eq-Decides wanted v).1 (each v (ap (λ (b : Bool). b || has_value values v) ((bytes_eq-Decides v v).1 refl))))
    (all_of_value wanted values (λ value has. each value (ap (λ (b : Bool). bytes_eq value v || b) has ∙ or_true (bytes_eq value v))))

pub variants_met : (s : Set) (attrs : List Attr) → AllByRecursion (MeetsVariant s) attrs → MeetsVariants s attrs
variants_met s attrs met key value is has =
    tags_all (λ k v. is_variant k ≡ true → variant_value s k ≡ v) attrs (all_weaker (MeetsVariant s) _ attrs (λ attr m v h tag. value_of_all (variant_value s attr.key) attr.values v (m tag) h) met) key value has is

pub variant_met : (s : Set) (front back : List Attr) (attr : Attr) → AreAttrs (front ++ attr ∷ back) → MeetsVariants s (front ++ attr ∷ back) → MeetsVariant s attr
variant_met s front back attr are met is = all_of_value (variant_value s attr.key) attr.values (λ value has. met attr.key value is (tag_at front back attr value are has))

-- ---- facets

pub all_met : (s : Set) (attrs : List Attr) → AllByRecursion (MeetsAll s) attrs → MeetsAllFacets s attrs
all_met s attrs met key is has =
    tags_all (λ k v. v ≡ codes "all" → is_facet k ≡ true → HasFacet s k true) attrs (all_weaker (MeetsAll s) _ attrs (λ (attr : Attr) m v h all tag. m (both_true (is_facet attr.key) (has_value attr.values (codes "all")) tag (subst (λ (w : List ℕ). has_value attr.values w ≡ true) all h))) met) key (codes "all") has refl is

pub facet_met : (s : Set) (front back : List Attr) (attr : Attr) → AreAttrs (front ++ attr ∷ back) → MeetsAllFacets s (front ++ attr ∷ back) → MeetsAll s attr
facet_met s front back attr are met is =
    met attr.key (and_first (is_facet attr.key) (has_value attr.values (codes "all")) is) (tag_at front back attr (codes "all") are (and_second (is_facet attr.key) (has_value attr.values (codes "all")) is))

-- the attribute is no facet's tag `true`, or the facet is off
abbrev pub TrueIsOff : Set → Attr → Type 0
TrueIsOff s attr = is_tag attr (codes "true") ≡ true → HasFacet s attr.key false

-- one of these attributes is a facet's tag `true`, or none is
abbrev pub HasSeen : List Attr → Bool → Type 0
HasSeen attrs true = (before : List Attr) × (attr : Attr) × (after : List Attr) × (attrs ≡ before ++ attr ∷ after) × (is_tag attr (codes "true") ≡ true)
HasSeen attrs false = AllByRecursion (λ (attr : Attr). is_tag attr (codes "true") ≡ true → ⊥) attrs

pub nothing_seen : HasSeen [] false
nothing_seen = tt

-- a tag `true` was seen
pub seen_here : (front : List Attr) (attr : Attr) → is_tag attr (codes "true") ≡ true → HasSeen (front ++ attr ∷ []) true
seen_here front attr is = (front, attr, [], refl, is)

-- another attribute was passed
pub seen_before : (front : List Attr) (attr : Attr) (any : Bool) → is_tag attr (codes "true") ≡ false → HasSeen front any → HasSeen (front ++ attr ∷ []) any
seen_before front attr true other seen = (seen.0, seen.1, seen.2 ++ attr ∷ [], ap (λ (l : List Attr). l ++ attr ∷ []) seen.3 ∙ append_assoc seen.0 (seen.1 ∷ seen.2) (attr ∷ []), seen.4)
seen_before front attr false other none = all_end (λ (a : Attr). is_tag a (codes "true") ≡ true → ⊥) front attr none (λ is. true≢false (sym is ∙ other))

true_tag : (front back : List Attr) (attr : Attr) → AreAttrs (front ++ attr ∷ back) → is_tag attr (codes "true") ≡ true → IsTrueTag (front ++ attr ∷ back) attr.key
true_tag front back attr are is = (and_first (is_facet attr.key) (has_value attr.values (codes "true")) is, tag_at front back attr (codes "true") are (and_second (is_facet attr.key) (has_value attr.values (codes "true")) is))

pub some_met : (s : Set) (front back : List Attr) (attr : Attr) → AreAttrs (front ++ attr ∷ back) → is_tag attr (codes "true") ≡ true → HasFacet s attr.key true → MeetsSomeFacet s (front ++ attr ∷ back)
some_met s front back attr are is on = inr (attr.key, true_tag front back attr are is, on)

pub none_wanted : (s : Set) (attrs : List Attr) → HasSeen attrs false → MeetsSomeFacet s attrs
none_wanted s attrs none = inl (λ key tag. tags_all (λ k v. v ≡ codes "true" → is_facet k ≡ true → ⊥) attrs (all_weaker (λ (attr : Attr). is_tag attr (codes "true") ≡ true → ⊥) _ attrs (λ (attr : Attr) n v h same is. n (both_true (is_facet attr.key) (has_value attr.values (codes "true")) is (subst (λ (w : List ℕ). has_value attr.values w ≡ true) same h))) none) key (codes "true") tag.1 refl tag.0)

-- all tags `true` are of facets that are off, and there is one
pub some_unmet : (s : Set) (attrs : List Attr) → AreAttrs attrs → AllByRecursion (TrueIsOff s) attrs → HasSeen attrs true → MeetsSomeFacet s attrs → ⊥
some_unmet s attrs are off seen met = elim met [
  | inl none ↦ none seen.1.key (subst (λ (l : List Attr). IsTrueTag l seen.1.key) (sym seen.3) (true_tag seen.0 seen.2 seen.1 (subst AreAttrs seen.3 are) seen.4))
  | inr some ↦ true≢false (facet_once s some.0 true false some.2 (tags_all (λ k v. v ≡ codes "true" → is_facet k ≡ true → HasFacet s k false) attrs (all_weaker (TrueIsOff s) _ attrs (λ (attr : Attr) o v h same is. o (both_true (is_facet attr.key) (has_value attr.values (codes "true")) is (subst (λ (w : List ℕ). has_value attr.values w ≡ true) same h))) off) some.0 (codes "true") some.1.1 refl some.1.0))
]

-- at the end: met where no tag `true` was seen
pub decided_by : (s : Set) (attrs : List Attr) (any : Bool) → AreAttrs attrs → AllByRecursion (TrueIsOff s) attrs → HasSeen attrs any → (not any ≡ true → MeetsSomeFacet s attrs) × (MeetsSomeFacet s attrs → not any ≡ true)
decided_by s attrs true are off seen = (λ h. absurd (true≢false (sym h)), λ met. absurd (some_unmet s attrs are off seen met))
decided_by s attrs false are off seen = (λ h. none_wanted s attrs seen, λ met. refl)
