-- What is asked of lawful records is lawful.
use Rattle.std.proofs.Common.{◌≡◌, ◌⊎◌, ℕ, Bool, true, false, not, ◌&&◌, cond, if◌then◌else◌, List, [], ◌∷◌, ◌++◌, map, filter, unwrap_or, Option, Some, None, IfSome, IsTrue, is_some, refl, sym, ap, subst, ◌∙◌, inl, inr, arith, bytes_eq}
use Rattle.std.specs.List.{AllByRecursion}
use Rattle.std.specs.List.Sorted.{IsStrictlySortedBy}
use Rattle.std.proofs.lemmas.Bool.{true≢false, or_cases, and_parts}
use Rattle.std.proofs.lemmas.Option.{none-some, same_Some}
use Rattle.std.proofs.lemmas.Slice.Eq.{bytes_eq-Decides}
use Rattle.ips_fmri.specs.Name.{IsPublisher, IsStem}
use Rattle.ips_fmri.specs.declared.fmri.Fmri.{Fmri}
use Rattle.ips_filter.specs.Settings.{Set, value_at}
use Rattle.ips_mediate.specs.declared.set.SetMediator as mediate
use Rattle.ips_records.specs.Form.{IsWord, IsNamed}
use Rattle.ips_state.specs.Form.{IsSetting}
use Rattle.ips_state.specs.declared.state.Origin.{Origin}
use Rattle.ips_state.specs.State.{Installed, Recorded, Ascend, IsOrdered}
use Rattle.ips_state.specs.Lawful.{Differ, AreSettings, AreStems, AreVersioned, AreMediators, ArePackages, IsLawful}
use Rattle.ips_index.specs.Text.{AreIndexRows}
use Rattle.ips_records.specs.Form.{IsRequestLine, IfWord}
use Rattle.ips_request.specs.Stems.{has}
use Rattle.ips_syntax.specs.declared.values.VariantWord.{VariantWord}
use Rattle.ips_syntax.specs.declared.values.FacetWord.{FacetWord}
use Rattle.ips_text.proofs.Lists.{all_append}
use Rattle.ips_words.specs.declared.what.What.{What}
use Rattle.ips_words.specs.declared.what.What.TheVariants.{ChangeFacet, ChangeVariant, SetMediator, UnsetMediator, Avoid, Unavoid, Freeze, Unfreeze, SetPublisher, UnsetPublisher, UpdateFormat}
use Rattle.ips_load.proofs.FileKinds.{same_list}
use Rattle.ips_asked.specs.Named.{ArePutIn}
use Rattle.ips_asked.specs.Set.{facet_behind, variant_behind, AreFacetsSet, AreVariantsSet}
use Rattle.ips_asked.specs.Origins.{origins_meant, sticky_in, with_origin, without_origin, origin_put, origins_changed, origins_set, origins_unset}
use Rattle.ips_asked.specs.Asked.{format_asked, origins_asked, AreSettingsAsked, stems_installed, AreAvoidedToo, IsAvoidAsked, IsFreezeAsked, AreMediatorsAsked, IsAskedBy}
use Rattle.ips_asked.specs.Founded.{IsFounded}
use Rattle.ips_asked.specs.Formed.{AreFacetWords, AreVariantWords, HasVersions, IsFormed}
use Rattle.ips_asked.proofs.Kept.{all_filter, ascend_filter, all_from_latest, latest_all, all_from_has, has_all, all_from_values, value_all}

-- ---- format

second : (w : What) (f : ℕ) → f ≡ 2 → format_asked w f ≡ 2
second UpdateFormat f is = refl
second w f is = is

format_second : (w : What) (f : ℕ) → (f ≡ 2) ⊎ (w ≡ UpdateFormat) → format_asked w f ≡ 2
format_second w f (inl is) = second w f is
format_second w f (inr is) = ap (λ w. format_asked w f) is

-- ---- origins

-- each is a publisher, and none is named twice
record AreEach (origins : List Origin) : Type 0 where
  each : AllByRecursion (λ (o : Origin). IsPublisher o.name) origins
  once : Differ (map (λ (o : Origin). o.name) origins)

all_with : (P : List ℕ → Type 0) (o : Origin) (os : List Origin) → P o.name → AllByRecursion P (map (λ (o : Origin). o.name) os) → AllByRecursion P (map (λ (o : Origin). o.name) (with_origin o os))
all_with P o [] own all = (own, tt)
all_with P o (x ∷ os) own all = go (bytes_eq x.name o.name) (all_with P o os own all.1)
  where
    go : (b : Bool) → AllByRecursion P (map (λ (o : Origin). o.name) (with_origin o os)) → AllByRecursion P (map (λ (o : Origin). o.name) (if b then o ∷ os else x ∷ with_origin o os))
    go true later = (own, all.1)
    go false later = (all.0, later)

each_with : (o : Origin) (os : List Origin) → IsPublisher o.name → AllByRecursion (λ (o : Origin). IsPublisher o.name) os → AllByRecursion (λ (o : Origin). IsPublisher o.name) (with_origin o os)
each_with o [] own all = (own, tt)
each_with o (x ∷ os) own all = go (bytes_eq x.name o.name) (each_with o os own all.1)
  where
    go : (b : Bool) → AllByRecursion (λ (o : Origin). IsPublisher o.name) (with_origin o os) → AllByRecursion (λ (o : Origin). IsPublisher o.name) (if b then o ∷ os else x ∷ with_origin o os)
    go true later = (own, all.1)
    go false later = (all.0, later)

once_with : (o : Origin) (os : List Origin) → Differ (map (λ (o : Origin). o.name) os) → Differ (map (λ (o : Origin). o.name) (with_origin o os))
once_with o [] once = (tt, tt)
once_with o (x ∷ os) once = go (bytes_eq x.name o.name) refl (once_with o os once.1)
  where
    go : (b : Bool) → bytes_eq x.name o.name ≡ b → Differ (map (λ (o : Origin). o.name) (with_origin o os)) → Differ (map (λ (o : Origin). o.name) (if b then o ∷ os else x ∷ with_origin o os))
    go true is later = (subst (λ (n : List ℕ). AllByRecursion (λ other. n ≡ other → ⊥) (map (λ (o : Origin). o.name) os)) ((bytes_eq-Decides x.name o.name).0 is) once.0, once.1)
    go false is later = (all_with (λ other. x.name ≡ other → ⊥) o os (λ same. true≢false (sym ((bytes_eq-Decides x.name o.name).1 same) ∙ is)) once.0, later)

all_without : (P : List ℕ → Type 0) (name : List ℕ) (os : List Origin) → AllByRecursion P (map (λ (o : Origin). o.name) os) → AllByRecursion P (map (λ (o : Origin). o.name) (without_origin name os))
all_without P name [] all = tt
all_without P name (x ∷ os) all = go (not (bytes_eq x.name name)) (all_without P name os all.1)
  where
    go : (b : Bool) → AllByRecursion P (map (λ (o : Origin). o.name) (without_origin name os)) → AllByRecursion P (map (λ (o : Origin). o.name) (cond b (x ∷ without_origin name os) (without_origin name os)))
    go true later = (all.0, later)
    go false later = later

once_without : (name : List ℕ) (os : List Origin) → Differ (map (λ (o : Origin). o.name) os) → Differ (map (λ (o : Origin). o.name) (without_origin name os))
once_without name [] once = tt
once_without name (x ∷ os) once = go (not (bytes_eq x.name name)) (once_without name os once.1)
  where
    go : (b : Bool) → Differ (map (λ (o : Origin). o.name) (without_origin name os)) → Differ (map (λ (o : Origin). o.name) (cond b (x ∷ without_origin name os) (without_origin name os)))
    go true later = (all_without (λ other. x.name ≡ other → ⊥) name os once.0, later)
    go false later = later

none_left : (name : List ℕ) (os : List Origin) → AllByRecursion (λ other. name ≡ other → ⊥) (map (λ (o : Origin). o.name) (without_origin name os))
none_left name [] = tt
none_left name (x ∷ os) = go (bytes_eq x.name name) refl (none_left name os)
  where
    go : (b : Bool) → bytes_eq x.name name ≡ b → AllByRecursion (λ other. name ≡ other → ⊥) (map (λ (o : Origin). o.name) (without_origin name os))
        → AllByRecursion (λ other. name ≡ other → ⊥) (map (λ (o : Origin). o.name) (cond (not b) (x ∷ without_origin name os) (without_origin name os)))
    go true is later = later
    go false is later = ((λ same. true≢false (sym ((bytes_eq-Decides x.name name).1 (sym same)) ∙ is)), later)

each_put : (first : Bool) (o : Origin) (os : List Origin) → IsPublisher o.name → AreEach os → AreEach (origin_put first o os)
each_put true o os own all = record {
  each = (own, all_filter (λ (o : Origin). IsPublisher o.name) (λ (x : Origin). not (bytes_eq x.name o.name)) os _ refl all.each);
  once = (none_left o.name os, once_without o.name os all.once);
}
each_put false o os own all = record { each = each_with o os own all.each; once = once_with o os all.once }

each_set : (publisher name : List ℕ) (first : Bool) (sticky : Option Bool) (os : List Origin) → IsPublisher publisher → IsPublisher name → AreEach os → AreEach (origins_set publisher name first sticky os)
each_set publisher name first sticky [] p n all = go (bytes_eq name publisher && unwrap_or sticky true)
  where
    meant : AreEach (origins_meant publisher [])
    meant = record { each = (p, tt); once = (tt, tt) }

    go : (b : Bool) → AreEach (if b then [] else origins_changed name first sticky (origins_meant publisher []))
    go true = record { each = tt; once = tt }
    go false = each_put first (record { name = name; sticky = unwrap_or sticky (sticky_in name (origins_meant publisher [])) }) (origins_meant publisher []) n meant
each_set publisher name first sticky (o ∷ os) p n all = each_put first (record { name = name; sticky = unwrap_or sticky (sticky_in name (o ∷ os)) }) (o ∷ os) n all

each_unset : (publisher name : List ℕ) (os : List Origin) → AreEach os → AreEach (origins_unset publisher name os)
each_unset publisher name os all = go (bytes_eq name publisher)
  where
    go : (b : Bool) → AreEach (if b then os else without_origin name os)
    go true = all
    go false = record { each = all_filter (λ (o : Origin). IsPublisher o.name) (λ (x : Origin). not (bytes_eq x.name name)) os _ refl all.each; once = once_without name os all.once }

each_asked : (w : What) (publisher : List ℕ) (os : List Origin) → IsFormed w → IsPublisher publisher → AreEach os → AreEach (origins_asked w publisher os)
each_asked (SetPublisher name first sticky) publisher os formed p all = each_set publisher name first sticky os p formed all
each_asked (UnsetPublisher name) publisher os formed p all = each_unset publisher name os all
each_asked w publisher os formed p all = all

no_one : {A : Type 0} (f : ℕ) → f ≡ 2 → f ≡ 1 → A
no_one f two one = absurd (let e : 2 ≡ 1 = sym two ∙ one in omega arith)

-- ---- variants and facets

facet_word : (name : List ℕ) (before : Option Bool) (words : List FacetWord) → AreFacetWords words → ((v : Bool) → before ≡ Some v → IsWord name) → (v : Bool) → facet_behind name before words ≡ Some v → IsWord name
facet_word name before [] all was v is = was v is
facet_word name before (w ∷ words) all was v is = facet_word name (if bytes_eq w.name name then w.on else before) words all.1 (λ u at. go (bytes_eq w.name name) refl u at) v is
  where
    go : (b : Bool) → bytes_eq w.name name ≡ b → (u : Bool) → (if b then w.on else before) ≡ Some u → IsWord name
    go true same u at = subst IsWord ((bytes_eq-Decides w.name name).0 same) all.0
    go false other u at = was u at

variant_word : (name : List ℕ) (before : Option (List ℕ)) (words : List VariantWord) → AreVariantWords words → ((v : List ℕ) → before ≡ Some v → IsWord name × IsWord v)
    → (v : List ℕ) → variant_behind name before words ≡ Some v → IsWord name × IsWord v
variant_word name before [] all was v is = was v is
variant_word name before (w ∷ words) all was v is = variant_word name (if bytes_eq w.name name then Some w.value else before) words all.1 (λ u at. go (bytes_eq w.name name) refl u at) v is
  where
    go : (b : Bool) → bytes_eq w.name name ≡ b → (u : List ℕ) → (if b then Some w.value else before) ≡ Some u → IsWord name × IsWord u
    go true same u at = (subst IsWord ((bytes_eq-Decides w.name name).0 same) all.0.0, subst IsWord (same_Some w.value u at) all.0.1)
    go false other u at = was u at

facets_lawful : (words : List FacetWord) (old new : Set) → AreFacetWords words → AreSettings old → AreFacetsSet words old new → AreSettings new
facets_lawful words old new formed lawful set = record {
  ordered = set.ordered;
  variants = subst (λ vs. AllByRecursion (λ (v : List ℕ × List ℕ). IsWord v.0 × IsWord v.1) vs) (sym set.variants) lawful.variants;
  facets = all_from_values (λ f. IsWord f.0) new.facets set.ordered.facets (λ name v is.
      facet_word name (value_at old.facets name) words formed (λ u at. value_all (λ f. IsWord f.0) old.facets name u lawful.facets at) v (sym (set.facets name) ∙ is));
}

variants_lawful : (words : List VariantWord) (old new : Set) → AreVariantWords words → AreSettings old → AreVariantsSet words old new → AreSettings new
variants_lawful words old new formed lawful set = record {
  ordered = set.ordered;
  variants = all_from_values (λ v. IsWord v.0 × IsWord v.1) new.variants set.ordered.variants (λ name v is.
      variant_word name (value_at old.variants name) words formed (λ u at. value_all (λ v. IsWord v.0 × IsWord v.1) old.variants name u lawful.variants at) v (sym (set.variants name) ∙ is));
  facets = subst (λ fs. AllByRecursion (λ (f : List ℕ × Bool). IsWord f.0) fs) (sym set.facets) lawful.facets;
}

settings_lawful : (w : What) (old new : Set) → IsFormed w → AreSettings old → AreSettingsAsked w old new → AreSettings new
settings_lawful (ChangeFacet facets accept) old new formed lawful set = facets_lawful facets.items old new formed lawful set
settings_lawful (ChangeVariant name value accept) old new formed lawful set = variants_lawful (record { name = name; value = value } ∷ []) old new (formed, tt) lawful set
settings_lawful w old new formed lawful set = subst AreSettings (sym set) lawful

-- ---- lists

avoided_lawful : (stems : List (List ℕ)) (packages : List Installed) (old new : List (List ℕ)) → AllByRecursion (IsStem false) stems → AreStems old → AreAvoidedToo stems packages old new → AreStems new
avoided_lawful stems packages old new formed lawful asked = record {
  each = all_from_has (IsStem false) new (λ x there. elim (or_cases (has x old) (has x stems && not (has x (stems_installed packages))) (sym (asked.each x) ∙ there)) [
    | inl l ↦ has_all (IsStem false) x old lawful.each l
    | inr r ↦ has_all (IsStem false) x stems formed (and_parts (has x stems) (not (has x (stems_installed packages))) r).0
  ]);
  order = asked.order;
}

avoid_lawful : (w : What) (packages : List Installed) (old new : List (List ℕ)) → IsFormed w → AreStems old → IsAvoidAsked w packages old new → AreStems new
avoid_lawful (Avoid stems) packages old new formed lawful asked = avoided_lawful stems.items packages old new formed lawful asked
avoid_lawful (Unavoid stems) packages old new formed lawful asked =
    let kept = λ (stem : List ℕ). not (has stem stems.items) in
    subst AreStems (sym asked) (record {
      each = all_filter (IsStem false) kept old _ refl lawful.each;
      order = subst Ascend (same_list (filter kept old)) (ascend_filter (λ (x : List ℕ). x) kept old (subst Ascend (sym (same_list old)) lawful.order));
    })
avoid_lawful w packages old new formed lawful asked = subst AreStems (sym asked) lawful

-- what is put in has the form of what was there and of what is put
put_all : {A : Type 0} (P : A → Type 0) (name_of : A → List ℕ) (more old new : List A) → AllByRecursion P more → AllByRecursion P old → ArePutIn name_of more old new → AllByRecursion P new
put_all P name_of more old new some was put =
    all_from_latest name_of P new put.order (λ name x is. latest_all name_of P name (old ++ more) x (all_append P old more was some) (sym (put.each name) ∙ is))

freeze_lawful : (w : What) (old new : List Fmri) → IsFormed w → AreVersioned old → IsFreezeAsked w old new → AreVersioned new
freeze_lawful (Freeze freezes) old new formed lawful asked = record { each = put_all IsNamed (λ (f : Fmri). f.stem) freezes.items old new formed lawful.each asked; order = asked.order }
freeze_lawful (Unfreeze stems) old new formed lawful asked =
    let kept = λ (stem : List ℕ). not (has stem stems.items) in
    subst AreVersioned (sym asked) (record {
      each = all_filter IsNamed (λ (f : Fmri). kept f.stem) old _ refl lawful.each;
      order = ascend_filter (λ (f : Fmri). f.stem) kept old lawful.order;
    })
freeze_lawful w old new formed lawful asked = subst AreVersioned (sym asked) lawful

mediators_lawful : (w : What) (old new : List mediate.SetMediator) → IsFormed w → AreMediators old → AreMediatorsAsked w old new → AreMediators new
mediators_lawful (SetMediator name version implementation) old new formed lawful asked = record {
  each = put_all IsSetting (λ (m : mediate.SetMediator). m.name) (record { name = name; version = version; implementation = implementation } ∷ []) old new
      (record { name = formed.0; version = formed.1; implementation = formed.2 }, tt) lawful.each asked;
  order = asked.order;
}
mediators_lawful (UnsetMediator name) old new formed lawful asked =
    let kept = λ (other : List ℕ). not (bytes_eq other name) in
    subst AreMediators (sym asked) (record {
      each = all_filter IsSetting (λ (m : mediate.SetMediator). kept m.name) old _ refl lawful.each;
      order = ascend_filter (λ (m : mediate.SetMediator). m.name) kept old lawful.order;
    })
mediators_lawful w old new formed lawful asked = subst AreMediators (sym asked) lawful

-- ---- all of it

pub asked_lawful : (w : What) (old new : Recorded) → IsFormed w → (old.format ≡ 2) ⊎ (w ≡ UpdateFormat) → IsLawful old → IsAskedBy w old new → IsLawful new
asked_lawful w old new formed format lawful asked =
    let two : new.format ≡ 2 = asked.format ∙ format_second w old.format format in
    let was : AreEach old.origins = record { each = lawful.head.origins.each; once = lawful.head.origins.once } in
    let origins : AreEach new.origins = subst AreEach (sym asked.origins) (each_asked w old.publisher old.origins formed lawful.head.publisher was) in
    record {
      head = record {
        format = inr two;
        publisher = subst IsPublisher (sym asked.publisher) lawful.head.publisher;
        origins = record { each = origins.each; once = origins.once; none = λ one. no_one new.format two one };
        actuator = subst IfWord (sym asked.actuator) lawful.head.actuator;
        settings = settings_lawful w old.settings new.settings formed lawful.head.settings asked.settings;
      };
      installed = subst ArePackages (sym asked.installed) lawful.installed;
      avoid = avoid_lawful w old.installed old.avoid new.avoid formed lawful.avoid asked.avoid;
      freeze = freeze_lawful w old.freeze new.freeze formed lawful.freeze asked.freeze;
      mediators = mediators_lawful w old.mediators new.mediators formed lawful.mediators asked.mediators;
      history = subst (AllByRecursion IsRequestLine) (sym asked.history) lawful.history;
      index = subst (λ i. IfSome i AreIndexRows) (sym asked.index) lawful.index;
    }

-- ---- order

avoid_ordered : (w : What) (packages : List Installed) (old new : List (List ℕ)) → Ascend old → IsAvoidAsked w packages old new → Ascend new
avoid_ordered (Avoid stems) packages old new order asked = asked.order
avoid_ordered (Unavoid stems) packages old new order asked =
    let kept = λ (stem : List ℕ). not (has stem stems.items) in
    subst Ascend (sym asked) (subst Ascend (same_list (filter kept old)) (ascend_filter (λ (x : List ℕ). x) kept old (subst Ascend (sym (same_list old)) order)))
avoid_ordered w packages old new order asked = subst Ascend (sym asked) order

-- freezes by their stems, each with a version
record AreFrozen (freezes : List Fmri) : Type 0 where
  order : Ascend (map (λ (f : Fmri). f.stem) freezes)
  each : AllByRecursion (λ (f : Fmri). IsTrue (is_some f.version)) freezes

freeze_ordered : (w : What) (old new : List Fmri) → HasVersions w → AreFrozen old → IsFreezeAsked w old new → AreFrozen new
freeze_ordered (Freeze freezes) old new versions frozen asked = record {
  order = asked.order;
  each = put_all (λ (f : Fmri). IsTrue (is_some f.version)) (λ (f : Fmri). f.stem) freezes.items old new versions frozen.each asked;
}
freeze_ordered (Unfreeze stems) old new versions frozen asked =
    let kept = λ (stem : List ℕ). not (has stem stems.items) in
    subst AreFrozen (sym asked) (record {
      order = ascend_filter (λ (f : Fmri). f.stem) kept old frozen.order;
      each = all_filter (λ (f : Fmri). IsTrue (is_some f.version)) (λ (f : Fmri). kept f.stem) old _ refl frozen.each;
    })
freeze_ordered w old new versions frozen asked = subst AreFrozen (sym asked) frozen

-- records stay in order
pub asked_ordered : (w : What) (old new : Recorded) → HasVersions w → IsOrdered old → IsAskedBy w old new → IsOrdered new
asked_ordered w old new versions ordered asked =
    let frozen = freeze_ordered w old.freeze new.freeze versions (record { order = ordered.freeze; each = ordered.frozen }) asked.freeze in
    record {
      installed = subst (λ (ps : List Installed). Ascend (map (λ (p : Installed). p.stem) ps)) (sym asked.installed) ordered.installed;
      avoid = avoid_ordered w old.installed old.avoid new.avoid ordered.avoid asked.avoid;
      freeze = frozen.order;
      frozen = frozen.each;
    }

-- ---- an image that is made

none_ascend : Ascend []
unfolding IsStrictlySortedBy
none_ascend = tt

no_word : {V A : Type 0} (v : V) → (let o : Option V = None in o) ≡ Some v → A
no_word v is = absurd (none-some v is)

-- the records of an image that is made are lawful
pub founded_lawful : (publisher : List ℕ) (variants : List VariantWord) (facets : List FacetWord) (actuator : Option (List ℕ)) (new : Recorded) → IsPublisher publisher → AreVariantWords variants
    → AreFacetWords facets → IfWord actuator → IsFounded publisher variants facets actuator new → IsLawful new
founded_lawful publisher variants facets actuator new named variant_words facet_words word is = record {
  head = record {
    format = inr is.format;
    publisher = subst IsPublisher (sym is.publisher_is) named;
    origins = record {
      each = subst (λ os. AllByRecursion (λ (o : Origin). IsPublisher o.name) os) (sym is.origins) tt;
      once = subst (λ os. Differ (map (λ (o : Origin). o.name) os)) (sym is.origins) tt;
      none = λ one. is.origins;
    };
    actuator = subst IfWord (sym is.actuator_is) word;
    settings = record {
      ordered = is.ordered;
      variants = all_from_values (λ v. IsWord v.0 × IsWord v.1) new.settings.variants is.ordered.variants (λ name v at.
          variant_word name None variants variant_words (λ u none. no_word u none) v (sym (is.variants_are name) ∙ at));
      facets = all_from_values (λ f. IsWord f.0) new.settings.facets is.ordered.facets (λ name v at.
          facet_word name None facets facet_words (λ u none. no_word u none) v (sym (is.facets_are name) ∙ at));
    };
  };
  installed = subst ArePackages (sym is.installed) (record { each = tt; order = none_ascend });
  avoid = subst AreStems (sym is.avoid) (record { each = tt; order = none_ascend });
  freeze = subst AreVersioned (sym is.freeze) (record { each = tt; order = none_ascend });
  mediators = subst AreMediators (sym is.mediators) (record { each = tt; order = none_ascend });
  history = subst (AllByRecursion IsRequestLine) (sym is.history) tt;
  index = subst (λ i. IfSome i AreIndexRows) (sym is.index) tt;
}
