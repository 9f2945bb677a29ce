-- The last thing of a name, and things that are kept under their names.
use Rattle.std.proofs.Common.{◌≡◌, ℕ, ◌+◌, ◌<◌, Bool, true, false, cond, if◌then◌else◌, List, [], ◌∷◌, ◌++◌, map, take, length, get_or, Option, Some, None, refl, sym, ap, subst, ◌∙◌, bytes_eq}
use Rattle.std.specs.Option.{option_or}
use Rattle.std.specs.List.{AllByRecursion}
use Rattle.std.specs.List.Sorted.{IsStrictlySortedBy}
use Rattle.std.specs.Map.{keys_of, values_of}
use Rattle.std.specs.BTreeMap.{insert_entry}
use Rattle.std.specs.Ordering.{nat_cmp, is_eq, match_ordering}
use Rattle.std.specs.Cmp.Lexicographic.{slice_cmp}
use Rattle.std.specs.declared.cmp.Ordering.{Ordering}
use Rattle.std.specs.declared.cmp.Ordering.TheVariants.{Less, Equal, Greater}
use Rattle.std.proofs.lemmas.Map.Text.{is_eq-slice_cmp}
use Rattle.std.proofs.lemmas.Slice.Eq.{bytes_eq-Decides}
use Rattle.ips_action.proofs.KeyOrder.{equal_is}
use Rattle.ips_text.proofs.Lists.{take_item}
use Rattle.ips_state.specs.State.{Ascend}
use Rattle.ips_asked.specs.Named.{ArePutIn, latest}
use Rattle.ips_asked.specs.Keyed.{AreKeyed, IsListed, found}

pub or_none : {A : Type 0} (p : Option A) → option_or p None ≡ p
or_none None = refl
or_none (Some x) = refl

or_three : {A : Type 0} (p q r : Option A) → option_or (option_or p q) r ≡ option_or p (option_or q r)
or_three None q r = refl
or_three (Some x) q r = refl

or_if : {A : Type 0} (b : Bool) (x : A) (p q : Option A) → option_or (option_or (if b then Some x else None) p) q ≡ (if b then Some x else option_or p q)
or_if true x p q = refl
or_if false x p q = refl

or_some : {A : Type 0} (b : Bool) (x : A) → option_or None (if b then Some x else None) ≡ (if b then Some x else None)
or_some true x = refl
or_some false x = refl

-- what was put under a name is found there, and else what was there before
pub put_found : {A : Type 0} (key name own : List ℕ) (copy item : A) (before : Option A) → key ≡ own → copy ≡ item
    → cond (is_eq (slice_cmp nat_cmp key name)) (Some copy) before ≡ (if bytes_eq own name then Some item else before)
put_found key name own copy item before k v =
    ap (λ (b : Bool). cond b (Some copy) before) (is_eq-slice_cmp key name) ∙ ap (λ (n : List ℕ). cond (bytes_eq n name) (Some copy) before) k
    ∙ ap (λ x. cond (bytes_eq own name) (Some x) before) v

module _ {A : Type 0} (name_of : A → List ℕ) where
  pub latest_append : (name : List ℕ) (a b : List A) → latest name_of name (a ++ b) ≡ option_or (latest name_of name b) (latest name_of name a)
  latest_append name [] b = sym (or_none (latest name_of name b))
  latest_append name (x ∷ a) b =
      ap (λ o. option_or o (if bytes_eq (name_of x) name then Some x else None)) (latest_append name a b)
      ∙ or_three (latest name_of name b) (latest name_of name a) (if bytes_eq (name_of x) name then Some x else None)

  -- one thing more
  pub latest_more : (name : List ℕ) (items : List A) (i : ℕ) (x : A) (before now init : Option A) → i < length items → x ≡ get_or items i x
      → before ≡ option_or (latest name_of name (take i items)) init → now ≡ (if bytes_eq (name_of x) name then Some x else before)
      → now ≡ option_or (latest name_of name (take (i + 1) items)) init
  latest_more name items i x before now init l at was is =
      let here = bytes_eq (name_of x) name in
      is ∙ ap (λ o. if here then Some x else o) was
      ∙ sym (ap (λ (xs : List A). option_or (latest name_of name xs) init) (take_item items i x l at)
      ∙ ap (λ o. option_or o init) (latest_append name (take i items) (x ∷ []) ∙ ap (λ o. option_or o (latest name_of name (take i items))) (or_some here x))
      ∙ or_if here x (latest name_of name (take i items)) init)

  -- a thing that is put under its name is kept under it
  pub keyed_put : (es : List (List ℕ × A)) (key : List ℕ) (x : A) → name_of x ≡ key → AreKeyed name_of es → AreKeyed name_of (insert_entry (slice_cmp nat_cmp) es key x)
  keyed_put [] key x is all = (is, tt)
  keyed_put (e ∷ es) key x is all = go (slice_cmp nat_cmp key e.0) refl (keyed_put es key x is all.1)
    where
      go : (o : Ordering) → slice_cmp nat_cmp key e.0 ≡ o → AreKeyed name_of (insert_entry (slice_cmp nat_cmp) es key x)
          → AreKeyed name_of (match_ordering o ((key, x) ∷ e ∷ es) ((e.0, x) ∷ es) (e ∷ insert_entry (slice_cmp nat_cmp) es key x))
      go Less at later = (is, all)
      go Equal at later = (is ∙ equal_is key e.0 at, all.1)
      go Greater at later = (all.0, later)

  -- behind a name nothing is found of it
  none_behind : (name : List ℕ) (es : List (List ℕ × A)) → AllByRecursion (λ k. slice_cmp nat_cmp name k ≡ Less) (keys_of es) → found name es ≡ None
  none_behind name [] all = refl
  none_behind name (e ∷ es) all = ap (λ (o : Ordering). cond (is_eq o) (Some e.1) (found name es)) all.0 ∙ none_behind name es all.1

  latest_found : (name : List ℕ) (es : List (List ℕ × A)) → IsStrictlySortedBy (slice_cmp nat_cmp) (keys_of es) → AreKeyed name_of es → latest name_of name (values_of es) ≡ found name es
  unfolding IsStrictlySortedBy
  latest_found name [] sorted all = refl
  latest_found name (e ∷ es) sorted all =
      ap (λ o. option_or o (if bytes_eq (name_of e.1) name then Some e.1 else None)) (latest_found name es sorted.1 all.1)
      ∙ ap (λ (n : List ℕ). option_or (found name es) (if bytes_eq n name then Some e.1 else None)) all.0
      ∙ go (bytes_eq e.0 name) refl
      ∙ sym (ap (λ (b : Bool). cond b (Some e.1) (found name es)) (is_eq-slice_cmp name e.0 ∙ turned (bytes_eq name e.0) (bytes_eq e.0 name) (λ t. there name e.0 t) (λ t. there e.0 name t)))
    where
      there : (a b : List ℕ) → bytes_eq a b ≡ true → bytes_eq b a ≡ true
      there a b t = (bytes_eq-Decides b a).1 (sym ((bytes_eq-Decides a b).0 t))

      turned : (x y : Bool) → (x ≡ true → y ≡ true) → (y ≡ true → x ≡ true) → x ≡ y
      turned true y f g = sym (f refl)
      turned false true f g = g refl
      turned false false f g = refl

      go : (b : Bool) → bytes_eq e.0 name ≡ b → option_or (found name es) (if b then Some e.1 else None) ≡ cond b (Some e.1) (found name es)
      go true is =
          ap (λ o. option_or o (Some e.1))
          (none_behind name es (subst (λ (n : List ℕ). AllByRecursion (λ k. slice_cmp nat_cmp n k ≡ Less) (keys_of es)) ((bytes_eq-Decides e.0 name).0 is) sorted.0))
      go false is = or_none (found name es)

  names_of : (es : List (List ℕ × A)) → AreKeyed name_of es → map name_of (values_of es) ≡ keys_of es
  names_of [] all = refl
  names_of (e ∷ es) all = λ i. all.0 i ∷ names_of es all.1 i

  -- the values of a map, by their names
  pub listed : (es : List (List ℕ × A)) → IsStrictlySortedBy (slice_cmp nat_cmp) (keys_of es) → AreKeyed name_of es → IsListed name_of es (values_of es)
  listed es sorted all = record { order = subst Ascend (sym (names_of es all)) sorted; each = λ name. latest_found name es sorted all }

  -- what is listed when the old things and then these were put in
  pub put_in_place : (old more new : List A) (es first second : List (List ℕ × A)) → es ≡ [] → ((name : List ℕ) → found name first ≡ option_or (latest name_of name old) (found name es))
      → ((name : List ℕ) → found name second ≡ option_or (latest name_of name more) (found name first)) → IsListed name_of second new → ArePutIn name_of more old new
  put_in_place old more new es first second empty one two listed = record {
    order = listed.order;
    each = λ name.
        listed.each name ∙ two name
        ∙ ap (λ o. option_or (latest name_of name more) o) (one name ∙ ap (λ (ds : List (List ℕ × A)). option_or (latest name_of name old) (found name ds)) empty ∙ or_none (latest name_of name old))
        ∙ sym (latest_append name old more);
  }
