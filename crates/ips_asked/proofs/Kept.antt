-- What holds of all things of a list, by their names.
use Rattle.std.proofs.Common.{◌≡◌, ℕ, Bool, true, false, cond, if◌then◌else◌, List, [], ◌∷◌, map, filter, Option, Some, None, refl, sym, ap, subst, ◌∙◌, ◌||◌, inl, inr, bytes_eq}
use Rattle.std.specs.Option.{option_or}
use Rattle.std.specs.List.{AllByRecursion}
use Rattle.std.specs.List.Sorted.{IsStrictlySortedBy}
use Rattle.std.specs.Map.{keys_of}
use Rattle.std.specs.Ordering.{nat_cmp, is_eq}
use Rattle.std.specs.Cmp.Lexicographic.{slice_cmp}
use Rattle.std.specs.declared.cmp.Ordering.TheVariants.{Less}
use Rattle.std.proofs.lemmas.Bool.{false_from_ne_true, true≢false, or_cases}
use Rattle.std.proofs.lemmas.Option.{none-some, same_Some}
use Rattle.std.proofs.lemmas.List.Kept.{IsStrictlySortedBy-filter}
use Rattle.std.proofs.lemmas.Map.Text.{is_eq-slice_cmp}
use Rattle.std.proofs.lemmas.Slice.Eq.{bytes_eq-Decides}
use Rattle.ips_filter.specs.Settings.{AreByName, value_at}
use Rattle.ips_request.specs.Stems.{has}
use Rattle.ips_state.specs.State.{Ascend}
use Rattle.ips_asked.specs.Named.{latest}

-- a name that stands before another isn't it, nor the other way round
pub unlike : (a b : List ℕ) → slice_cmp nat_cmp a b ≡ Less → (bytes_eq a b ≡ false) × (bytes_eq b a ≡ false)
unlike a b less = (here, false_from_ne_true (bytes_eq b a) (λ t. true≢false (sym ((bytes_eq-Decides a b).1 (sym ((bytes_eq-Decides b a).0 t))) ∙ here)))
  where
    here : bytes_eq a b ≡ false
    here = sym (is_eq-slice_cmp a b) ∙ ap is_eq less

-- ---- filters

pub all_filter : {A : Type 0} (P : A → Type 0) (p : A → Bool) (xs ys : List A) → ys ≡ filter p xs → AllByRecursion P xs → AllByRecursion P ys
all_filter P p [] ys is all = subst (AllByRecursion P) (sym is) tt
all_filter P p (x ∷ xs) ys is all = subst (AllByRecursion P) (sym is) (go (p x) (all_filter P p xs (filter p xs) refl all.1))
  where
    go : (b : Bool) → AllByRecursion P (filter p xs) → AllByRecursion P (cond b (x ∷ filter p xs) (filter p xs))
    go true rest = (all.0, rest)
    go false rest = rest

map_filter : {A : Type 0} (name_of : A → List ℕ) (p : List ℕ → Bool) (xs : List A) → map name_of (filter (λ x. p (name_of x)) xs) ≡ filter p (map name_of xs)
map_filter name_of p [] = refl
map_filter name_of p (x ∷ xs) = go (p (name_of x)) (map_filter name_of p xs)
  where
    go : (b : Bool) → map name_of (filter (λ x. p (name_of x)) xs) ≡ filter p (map name_of xs)
        → map name_of (cond b (x ∷ filter (λ x. p (name_of x)) xs) (filter (λ x. p (name_of x)) xs)) ≡ cond b (name_of x ∷ filter p (map name_of xs)) (filter p (map name_of xs))
    go true rest = ap (λ l. name_of x ∷ l) rest
    go false rest = rest

-- names that ascend do so without some of them
pub ascend_filter : {A : Type 0} (name_of : A → List ℕ) (p : List ℕ → Bool) (xs : List A) → Ascend (map name_of xs) → Ascend (map name_of (filter (λ x. p (name_of x)) xs))
ascend_filter name_of p xs order = subst Ascend (sym (map_filter name_of p xs)) (IsStrictlySortedBy-filter (slice_cmp nat_cmp) p (map name_of xs) order)

-- ---- the last of a name

module _ {A : Type 0} (name_of : A → List ℕ) where
  pub none_latest : (name : List ℕ) (xs : List A) → AllByRecursion (λ k. slice_cmp nat_cmp name k ≡ Less) (map name_of xs) → latest name_of name xs ≡ None
  none_latest name [] all = refl
  none_latest name (x ∷ xs) all =
      ap (λ o. option_or o (if bytes_eq (name_of x) name then Some x else None)) (none_latest name xs all.1)
      ∙ ap (λ (b : Bool). option_or None (if b then Some x else None)) (unlike name (name_of x) all.0).1

  pub first_latest : (x : A) (xs : List A) → AllByRecursion (λ k. slice_cmp nat_cmp (name_of x) k ≡ Less) (map name_of xs) → latest name_of (name_of x) (x ∷ xs) ≡ Some x
  first_latest x xs all =
      ap (λ o. option_or o (if bytes_eq (name_of x) (name_of x) then Some x else None)) (none_latest (name_of x) xs all)
      ∙ ap (λ (b : Bool). option_or None (if b then Some x else None)) ((bytes_eq-Decides (name_of x) (name_of x)).1 refl)

  -- what holds of the last of each name holds of all, where each name stands once
  pub all_from_latest : (P : A → Type 0) (xs : List A) → Ascend (map name_of xs) → ((name : List ℕ) (x : A) → latest name_of name xs ≡ Some x → P x) → AllByRecursion P xs
  unfolding IsStrictlySortedBy
  all_from_latest P [] order each = tt
  all_from_latest P (x ∷ xs) order each = (
    each (name_of x) x (first_latest x xs order.0),
    all_from_latest P xs order.1 (λ name y is. each name y (ap (λ o. option_or o (if bytes_eq (name_of x) name then Some x else None)) is)),
  )

  -- what holds of all holds of the last of a name
  pub latest_all : (P : A → Type 0) (name : List ℕ) (xs : List A) (y : A) → AllByRecursion P xs → latest name_of name xs ≡ Some y → P y
  latest_all P name [] y all is = absurd (none-some y is)
  latest_all P name (x ∷ xs) y all is = go (latest name_of name xs) refl (λ z at. latest_all P name xs z all.1 at)
    where
      own : (b : Bool) → (if b then Some x else None) ≡ Some y → P y
      own true at = subst P (same_Some x y at) all.0
      own false at = absurd (none-some y at)

      go : (o : Option A) → latest name_of name xs ≡ o → ((z : A) → latest name_of name xs ≡ Some z → P z) → P y
      go None at later = own (bytes_eq (name_of x) name) (ap (λ o. option_or o (if bytes_eq (name_of x) name then Some x else None)) (sym at) ∙ is)
      go (Some z) at later = subst P (same_Some z y (ap (λ o. option_or o (if bytes_eq (name_of x) name then Some x else None)) (sym at) ∙ is)) (later z at)

-- ---- stems

-- what holds of each that is there holds of all
pub all_from_has : (P : List ℕ → Type 0) (xs : List (List ℕ)) → ((x : List ℕ) → has x xs ≡ true → P x) → AllByRecursion P xs
all_from_has P [] each = tt
all_from_has P (x ∷ xs) each = (
  each x (ap (λ b. b || has x xs) ((bytes_eq-Decides x x).1 refl)),
  all_from_has P xs (λ y there. each y (ap (λ b. bytes_eq y x || b) there ∙ either (bytes_eq y x))),
)
  where
    either : (b : Bool) → (b || true) ≡ true
    either true = refl
    either false = refl

pub has_all : (P : List ℕ → Type 0) (x : List ℕ) (xs : List (List ℕ)) → AllByRecursion P xs → has x xs ≡ true → P x
has_all P x [] all there = absurd (true≢false (sym there))
has_all P x (y ∷ xs) all there = elim (or_cases (bytes_eq x y) (has x xs) there) [
  | inl same ↦ subst P (sym ((bytes_eq-Decides x y).0 same)) all.0
  | inr later ↦ has_all P x xs all.1 later
]

-- ---- what is set by name

module _ {V : Type 0} where
  none_set : (name : List ℕ) (es : List (List ℕ × V)) → AllByRecursion (λ k. slice_cmp nat_cmp name k ≡ Less) (keys_of es) → value_at es name ≡ None
  none_set name [] all = refl
  none_set name (e ∷ es) all = ap (λ (b : Bool). cond b (Some e.1) (value_at es name)) (unlike name e.0 all.0).0 ∙ none_set name es all.1

  pub all_from_values : (P : List ℕ × V → Type 0) (es : List (List ℕ × V)) → AreByName es → ((name : List ℕ) (v : V) → value_at es name ≡ Some v → P (name, v)) → AllByRecursion P es
  unfolding IsStrictlySortedBy
  all_from_values P [] order each = tt
  all_from_values P (e ∷ es) order each = (
    each e.0 e.1 (ap (λ (b : Bool). cond b (Some e.1) (value_at es e.0)) ((bytes_eq-Decides e.0 e.0).1 refl)),
    all_from_values P es order.1 (λ name v is. go name v is (bytes_eq name e.0) refl),
  )
    where
      go : (name : List ℕ) (v : V) → value_at es name ≡ Some v → (b : Bool) → bytes_eq name e.0 ≡ b → P (name, v)
      go name v is true same =
          let one : name ≡ e.0 = (bytes_eq-Decides name e.0).0 same in
          absurd (none-some v (sym (none_set name es (subst (λ (n : List ℕ). AllByRecursion (λ k. slice_cmp nat_cmp n k ≡ Less) (keys_of es)) (sym one) order.0)) ∙ is))
      go name v is false other = each name v (ap (λ (b : Bool). cond b (Some e.1) (value_at es name)) other ∙ is)

  pub value_all : (P : List ℕ × V → Type 0) (es : List (List ℕ × V)) (name : List ℕ) (v : V) → AllByRecursion P es → value_at es name ≡ Some v → P (name, v)
  value_all P [] name v all is = absurd (none-some v is)
  value_all P (e ∷ es) name v all is = go (bytes_eq name e.0) refl (λ at. value_all P es name v all.1 at)
    where
      go : (b : Bool) → bytes_eq name e.0 ≡ b → (value_at es name ≡ Some v → P (name, v)) → P (name, v)
      go true same later =
          subst P (λ i. (sym ((bytes_eq-Decides name e.0).0 same) i, same_Some e.1 v (ap (λ (b : Bool). cond b (Some e.1) (value_at es name)) (sym same) ∙ is) i)) all.0
      go false other later = later (ap (λ (b : Bool). cond b (Some e.1) (value_at es name)) (sym other) ∙ is)
