-- What is asked is one.
use Rattle.std.proofs.Common.{◌≡◌, ℕ, Bool, true, false, ◌||◌, if◌then◌else◌, List, [], ◌∷◌, map, Some, None, refl, sym, ap, ap₂, subst, ◌∙◌, bytes_eq}
use Rattle.std.specs.Option.{option_or}
use Rattle.std.specs.List.{AllByRecursion}
use Rattle.std.specs.List.Sorted.{IsStrictlySortedBy}
use Rattle.std.specs.Ordering.{nat_cmp, ordering_reverse}
use Rattle.std.specs.Cmp.Lexicographic.{slice_cmp}
use Rattle.std.specs.declared.cmp.Ordering.{Ordering}
use Rattle.std.specs.declared.cmp.Ordering.TheVariants.{Less, Equal, Greater}
use Rattle.std.proofs.lemmas.Option.{none-some, same_Some}
use Rattle.std.proofs.lemmas.Cmp.{nat_list_cmp_total}
use Rattle.std.proofs.lemmas.Slice.Eq.{bytes_eq-Decides}
use Rattle.ips_action.proofs.KeyOrder.{equal_is, turned}
use Rattle.ips_fmri.specs.declared.fmri.Fmri.{Fmri}
use Rattle.ips_filter.specs.Settings.{Set}
use Rattle.ips_load.proofs.SetInOrder.{set_alike}
use Rattle.ips_mediate.specs.declared.set.SetMediator as mediate
use Rattle.ips_request.specs.Stems.{has}
use Rattle.ips_state.specs.State.{Ascend, Installed, Recorded}
use Rattle.ips_words.specs.declared.what.What.{What}
use Rattle.ips_words.specs.declared.what.What.TheVariants.{ChangeFacet, ChangeVariant, SetMediator, UnsetMediator, Avoid, Unavoid, Freeze, Unfreeze}
use Rattle.ips_load.proofs.FileKinds.{same_list}
use Rattle.ips_asked.proofs.Latest.{or_none}
use Rattle.ips_asked.specs.Named.{latest, ArePutIn}
use Rattle.ips_asked.specs.Asked.{AreSettingsAsked, IsAvoidAsked, IsFreezeAsked, AreMediatorsAsked, IsAskedBy}
use Rattle.ips_asked.proofs.Kept.{none_latest, first_latest}

behind : (a b : List ℕ) (keys : List (List ℕ)) → slice_cmp nat_cmp a b ≡ Less → AllByRecursion (λ k. slice_cmp nat_cmp b k ≡ Less) keys → AllByRecursion (λ k. slice_cmp nat_cmp a k ≡ Less) keys
behind a b [] ab all = tt
behind a b (k ∷ keys) ab all = (nat_list_cmp_total.trans a b k ab all.0, behind a b keys ab all.1)

module _ {A : Type 0} (name_of : A → List ℕ) where
  -- a name before all of them has none
  absent : (name : List ℕ) (y : A) (ys : List A) → slice_cmp nat_cmp name (name_of y) ≡ Less → AllByRecursion (λ k. slice_cmp nat_cmp (name_of y) k ≡ Less) (map name_of ys) → latest name_of name (y ∷ ys) ≡ None
  absent name y ys less all = none_latest name_of name (y ∷ ys) (less, behind name (name_of y) (map name_of ys) less all)

  -- what stands under a name behind the first
  later : (x : A) (xs : List A) (name : List ℕ) → AllByRecursion (λ k. slice_cmp nat_cmp (name_of x) k ≡ Less) (map name_of xs) → latest name_of name xs ≡ (if bytes_eq (name_of x) name then None else latest name_of name (x ∷ xs))
  later x xs name all = go (bytes_eq (name_of x) name) refl
    where
      go : (b : Bool) → bytes_eq (name_of x) name ≡ b → latest name_of name xs ≡ (if b then None else latest name_of name (x ∷ xs))
      go true is = none_latest name_of name xs (subst (λ (n : List ℕ). AllByRecursion (λ k. slice_cmp nat_cmp n k ≡ Less) (map name_of xs)) ((bytes_eq-Decides (name_of x) name).0 is) all)
      go false is = sym (ap (λ (b : Bool). option_or (latest name_of name xs) (if b then Some x else None)) is ∙ or_none (latest name_of name xs))

  -- things by their names are one list where the same stands under each name
  pub one_list : (xs ys : List A) → Ascend (map name_of xs) → Ascend (map name_of ys) → ((name : List ℕ) → latest name_of name xs ≡ latest name_of name ys) → xs ≡ ys
  unfolding IsStrictlySortedBy
  one_list [] [] up rising same = refl
  one_list [] (y ∷ ys) up rising same = absurd (none-some y (same (name_of y) ∙ first_latest name_of y ys rising.0))
  one_list (x ∷ xs) [] up rising same = absurd (none-some x (sym (same (name_of x)) ∙ first_latest name_of x xs up.0))
  one_list (x ∷ xs) (y ∷ ys) up rising same = go (slice_cmp nat_cmp (name_of x) (name_of y)) refl (one_list xs ys up.1 rising.1)
    where
      go : (o : Ordering) → slice_cmp nat_cmp (name_of x) (name_of y) ≡ o → (((name : List ℕ) → latest name_of name xs ≡ latest name_of name ys) → xs ≡ ys) → x ∷ xs ≡ y ∷ ys
      go Less is rest = absurd (none-some x (sym (absent (name_of x) y ys is rising.0) ∙ sym (same (name_of x)) ∙ first_latest name_of x xs up.0))
      go Greater is rest =
          let less : slice_cmp nat_cmp (name_of y) (name_of x) ≡ Less = turned (name_of y) (name_of x) ∙ ap ordering_reverse is in
          absurd (none-some y (sym (absent (name_of y) x xs less up.0) ∙ same (name_of y) ∙ first_latest name_of y ys rising.0))
      go Equal is rest =
          let one : name_of x ≡ name_of y = equal_is (name_of x) (name_of y) is in
          let first : x ≡ y = same_Some x y (sym (first_latest name_of x xs up.0) ∙ same (name_of x) ∙ ap (λ (n : List ℕ). latest name_of n (y ∷ ys)) one ∙ first_latest name_of y ys rising.0) in
          ap₂ (λ (z : A) (l : List A). z ∷ l) first (rest (λ name.
          later x xs name up.0 ∙ ap (λ o. if bytes_eq (name_of x) name then None else o) (same name)
          ∙ ap (λ (n : List ℕ). if bytes_eq n name then None else latest name_of name (y ∷ ys)) one ∙ sym (later y ys name rising.0)))

-- ---- stems

there : (x : List ℕ) (xs : List (List ℕ)) → latest (λ (y : List ℕ). y) x xs ≡ (if has x xs then Some x else None)
there x [] = refl
there x (y ∷ xs) =
    ap (λ o. option_or o (if bytes_eq y x then Some y else None)) (there x xs) ∙ go (bytes_eq y x) (bytes_eq x y) (has x xs) refl refl
  where
    go : (b e h : Bool) → bytes_eq y x ≡ b → bytes_eq x y ≡ e → option_or (if h then Some x else None) (if b then Some y else None) ≡ (if e || h then Some x else None)
    go b true true at back = refl
    go b false true at back = refl
    go true true false at back = ap (λ (z : List ℕ). Some z) ((bytes_eq-Decides y x).0 at)
    go false false false at back = refl
    go true false false at back = absurd (let e : true ≡ false = sym ((bytes_eq-Decides x y).1 (sym ((bytes_eq-Decides y x).0 at))) ∙ back in cc)
    go false true false at back = absurd (let e : true ≡ false = sym ((bytes_eq-Decides y x).1 (sym ((bytes_eq-Decides x y).0 back))) ∙ at in cc)

pub one_stems : (xs ys : List (List ℕ)) → Ascend xs → Ascend ys → ((x : List ℕ) → has x xs ≡ has x ys) → xs ≡ ys
one_stems xs ys up rising same =
    one_list (λ (x : List ℕ). x) xs ys (subst Ascend (sym (same_list xs)) up) (subst Ascend (sym (same_list ys)) rising)
    (λ x. there x xs ∙ ap (λ (b : Bool). if b then Some x else None) (same x) ∙ sym (there x ys))

-- ---- part by part

put_one : {A : Type 0} (name_of : A → List ℕ) (more old a b : List A) → ArePutIn name_of more old a → ArePutIn name_of more old b → a ≡ b
put_one name_of more old a b x y = one_list name_of a b x.order y.order (λ name. x.each name ∙ sym (y.each name))

settings_one : (w : What) (old a b : Set) → AreSettingsAsked w old a → AreSettingsAsked w old b → a ≡ b
settings_one (ChangeFacet facets accept) old a b x y =
    let facets_are = set_alike a.facets b.facets x.ordered.facets y.ordered.facets (λ name. x.facets name ∙ sym (y.facets name)) in
    λ i. record { variants = (x.variants ∙ sym y.variants) i; facets = facets_are i }
settings_one (ChangeVariant name value accept) old a b x y =
    let variants_are = set_alike a.variants b.variants x.ordered.variants y.ordered.variants (λ name. x.variants name ∙ sym (y.variants name)) in
    λ i. record { variants = variants_are i; facets = (x.facets ∙ sym y.facets) i }
settings_one w old a b x y = x ∙ sym y

avoid_one : (w : What) (packages : List Installed) (old a b : List (List ℕ)) → IsAvoidAsked w packages old a → IsAvoidAsked w packages old b → a ≡ b
avoid_one (Avoid stems) packages old a b x y = one_stems a b x.order y.order (λ stem. x.each stem ∙ sym (y.each stem))
avoid_one (Unavoid stems) packages old a b x y = x ∙ sym y
avoid_one w packages old a b x y = x ∙ sym y

freeze_one : (w : What) (old a b : List Fmri) → IsFreezeAsked w old a → IsFreezeAsked w old b → a ≡ b
freeze_one (Freeze freezes) old a b x y = put_one (λ (f : Fmri). f.stem) freezes.items old a b x y
freeze_one (Unfreeze stems) old a b x y = x ∙ sym y
freeze_one w old a b x y = x ∙ sym y

mediators_one : (w : What) (old a b : List mediate.SetMediator) → AreMediatorsAsked w old a → AreMediatorsAsked w old b → a ≡ b
mediators_one (SetMediator name version implementation) old a b x y =
    put_one (λ (m : mediate.SetMediator). m.name) (record { name = name; version = version; implementation = implementation } ∷ []) old a b x y
mediators_one (UnsetMediator name) old a b x y = x ∙ sym y
mediators_one w old a b x y = x ∙ sym y

-- what a command asks of records is one
pub asked_one : (w : What) (old a b : Recorded) → IsAskedBy w old a → IsAskedBy w old b → a ≡ b
asked_one w old a b x y =
    let settings = settings_one w old.settings a.settings b.settings x.settings y.settings in
    let avoid = avoid_one w old.installed old.avoid a.avoid b.avoid x.avoid y.avoid in
    let freeze = freeze_one w old.freeze a.freeze b.freeze x.freeze y.freeze in
    let mediators = mediators_one w old.mediators a.mediators b.mediators x.mediators y.mediators in
    λ i. record {
      format = (x.format ∙ sym y.format) i;
      publisher = (x.publisher ∙ sym y.publisher) i;
      origins = (x.origins ∙ sym y.origins) i;
      actuator = (x.actuator ∙ sym y.actuator) i;
      settings = settings i;
      installed = (x.installed ∙ sym y.installed) i;
      avoid = avoid i;
      freeze = freeze i;
      mediators = mediators i;
      history = (x.history ∙ sym y.history) i;
      index = (x.index ∙ sym y.index) i;
    }
