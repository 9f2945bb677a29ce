-- Attributes that are gathered from `key=value`: they stand by their keys, and each has its values in order.
use Rattle.std.proofs.Common.{◌≡◌, ℕ, zero, suc, ◌<◌, ◌≤◌, Bool, true, false, cond, List, [], ◌∷◌, ◌++◌, map, length, get_or, refl, sym, ◌∙◌, ap, subst, arith}
use Rattle.std.specs.Prelude.{filter}
use Rattle.std.specs.List.{AllByRecursion}
use Rattle.std.specs.Ordering.{is_lt}
use Rattle.std.specs.List.Sorted.{IsSortedBy, IsStableBy, ties}
use Rattle.std.specs.Cmp.{IsStrictWeakOrder}
use Rattle.std.proofs.lemmas.List.Sorted.{sorted_far, ranks_by}
use Rattle.std.proofs.lemmas.Cmp.{nat_list_cmp_total}
use Rattle.std.proofs.lemmas.List.Elements.{recursion_from_All}
use Rattle.ips_line.specs.declared.words.Pair.{Pair}
use Rattle.ips_action.specs.Attrs.{Attr, is_same, IsBefore, AreAttrs, values_of, values_in, Gathers}
use Rattle.ips_action.specs.Gathering.{UpTo, Ascend, single, joined, grouped}
use Rattle.ips_action.proofs.KeyOrder.{by_bytes, same_true, after_other, before_trans, upto_unlike, upto_from_sorted, ties_are}

abbrev more : Pair → Attr → Attr
more p attr = record { key = p.key; values = p.value ∷ attr.values }

-- ---- keys

joined_all : (P : List ℕ → Type 0) (p : Pair) (attrs : List Attr) → P p.key → AllByRecursion (λ (a : Attr). P a.key) attrs → AllByRecursion (λ (a : Attr). P a.key) (joined p attrs)
joined_all P p [] g h = (g, tt)
joined_all P p (a ∷ attrs) g h = go (is_same p.key a.key)
  where
    go : (t : Bool) → AllByRecursion (λ (x : Attr). P x.key) (cond t (more p a ∷ attrs) (single p ∷ a ∷ attrs))
    go true = (g, h.1)
    go false = (g, h)

pub grouped_all : (P : List ℕ → Type 0) (pairs : List Pair) → AllByRecursion (λ (q : Pair). P q.key) pairs → AllByRecursion (λ (a : Attr). P a.key) (grouped pairs)
grouped_all P [] h = tt
grouped_all P (p ∷ pairs) h = joined_all P p (grouped pairs) h.0 (grouped_all P pairs h.1)

pub all_later : (attrs : List Attr) (a b : List ℕ) → IsBefore a b → AllByRecursion (λ (x : Attr). IsBefore b x.key) attrs → AllByRecursion (λ (x : Attr). IsBefore a x.key) attrs
all_later [] a b h g = tt
all_later (x ∷ attrs) a b h g = (before_trans a b x.key h g.0, all_later attrs a b h g.1)

joined_attrs : (p : Pair) (attrs : List Attr) → AreAttrs attrs → AllByRecursion (λ (a : Attr). UpTo p.key a.key) attrs → AreAttrs (joined p attrs)
joined_attrs p [] h u = (omega arith, tt, tt)
joined_attrs p (a ∷ attrs) h u = go (is_same p.key a.key) refl
  where
    go : (t : Bool) → is_same p.key a.key ≡ t → AreAttrs (cond t (more p a ∷ attrs) (single p ∷ a ∷ attrs))
    go true e =
        let P : List ℕ → Type 0 = λ k. AllByRecursion (λ (x : Attr). IsBefore k x.key) attrs in
        (omega arith, subst P (sym (same_true p.key a.key e)) h.1, h.2)
    go false e =
        let before : IsBefore p.key a.key = upto_unlike p.key a.key u.0 e in
        (omega arith, (before, all_later attrs p.key a.key before h.1), h)

pub grouped_attrs : (pairs : List Pair) → Ascend pairs → AreAttrs (grouped pairs)
grouped_attrs [] h = tt
grouped_attrs (p ∷ pairs) h = joined_attrs p (grouped pairs) (grouped_attrs pairs h.1) (grouped_all (UpTo p.key) pairs h.0)

-- ---- values

abbrev given : List ℕ → Pair → List (List ℕ)
given key p = cond (is_same p.key key) (p.value ∷ []) []

-- a key that comes before all has no values among them
pub later_none : (attrs : List Attr) (key : List ℕ) → AllByRecursion (λ (a : Attr). IsBefore key a.key) attrs → values_of key attrs ≡ []
later_none [] key h = refl
later_none (a ∷ attrs) key h = rw (after_other key a.key h.0) (later_none attrs key h.1)

joined_values : (p : Pair) (attrs : List Attr) → AreAttrs attrs → AllByRecursion (λ (a : Attr). UpTo p.key a.key) attrs → (key : List ℕ) → values_of key (joined p attrs) ≡ given key p ++ values_of key attrs
joined_values p [] h u key = go (is_same p.key key)
  where
    go : (t : Bool) → cond t (p.value ∷ []) [] ≡ cond t (p.value ∷ []) [] ++ []
    go true = refl
    go false = refl
joined_values p (a ∷ attrs) h u key = go (is_same p.key a.key) refl
  where
    alike : (t : Bool) → cond t (p.value ∷ a.values) (values_of key attrs) ≡ cond t (p.value ∷ []) [] ++ cond t a.values (values_of key attrs)
    alike true = refl
    alike false = refl

    unlike : (t : Bool) → is_same p.key key ≡ t → IsBefore p.key a.key → cond t (p.value ∷ []) (values_of key (a ∷ attrs)) ≡ cond t (p.value ∷ []) [] ++ values_of key (a ∷ attrs)
    unlike true e before =
        let P : List ℕ → Type 0 = λ k. AllByRecursion (λ (x : Attr). IsBefore k x.key) (a ∷ attrs) in
        let none : values_of key (a ∷ attrs) ≡ [] = later_none (a ∷ attrs) key (subst P (same_true p.key key e) (before, all_later attrs p.key a.key before h.1)) in
        ap (λ (l : List (List ℕ)). p.value ∷ l) (sym none)
    unlike false e before = refl

    go : (t : Bool) → is_same p.key a.key ≡ t → values_of key (cond t (more p a ∷ attrs) (single p ∷ a ∷ attrs)) ≡ given key p ++ values_of key (a ∷ attrs)
    go true e =
        let P : List ℕ → Type 0 = λ k. cond (is_same p.key key) (p.value ∷ a.values) (values_of key attrs) ≡ given key p ++ cond (is_same k key) a.values (values_of key attrs) in
        subst P (same_true p.key a.key e) (alike (is_same p.key key))
    go false e = unlike (is_same p.key key) refl (upto_unlike p.key a.key u.0 e)

pub grouped_values : (pairs : List Pair) → Ascend pairs → (key : List ℕ) → values_of key (grouped pairs) ≡ values_in key pairs
grouped_values [] h key = refl
grouped_values (p ∷ pairs) h key =
    joined_values p (grouped pairs) (grouped_attrs pairs h.1) (grouped_all (UpTo p.key) pairs h.0) key
    ∙ ap (λ (l : List (List ℕ)). given key p ++ l) (grouped_values pairs h.1 key)
    ∙ go (is_same p.key key)
  where
    go : (t : Bool) → cond t (p.value ∷ []) [] ++ values_in key pairs ≡ map (λ (q : Pair). q.value) (cond t (p ∷ filter (λ (q : Pair). is_same q.key key) pairs) (filter (λ (q : Pair). is_same q.key key) pairs))
    go true = refl
    go false = refl

-- ---- sorted

abbrev pub before_pair : Pair → Pair → Bool
before_pair p q = is_lt (by_bytes p.key q.key)

pub before_pair_order : IsStrictWeakOrder before_pair
before_pair_order = ranks_by nat_list_cmp_total (λ (p : Pair). p.key)

rising : (pairs : List Pair) → ((i j : ℕ) (d : Pair) → i ≤ j → j < length pairs → before_pair (get_or pairs j d) (get_or pairs i d) ≡ false) → Ascend pairs
rising [] h = tt
rising (p ∷ pairs) h =
    (recursion_from_All (λ (q : Pair). UpTo p.key q.key) pairs (λ k d lt. upto_from_sorted p.key (get_or pairs k d).key (h zero (suc k) d (omega arith) (omega arith))), rising pairs (λ i j d le lt. h (suc i) (suc j) d (omega arith) (omega arith)))

filter_alike : (p q : Pair → Bool) → ((x : Pair) → p x ≡ q x) → (xs : List Pair) → filter p xs ≡ filter q xs
filter_alike p q same [] = refl
filter_alike p q same (x ∷ xs) = ap (λ (t : Bool). cond t (x ∷ filter p xs) (filter p xs)) (same x) ∙ ap (λ (l : List Pair). cond (q x) (x ∷ l) l) (filter_alike p q same xs)

stable_values : (pairs sorted : List Pair) → IsStableBy before_pair pairs sorted → (key : List ℕ) → values_in key sorted ≡ values_in key pairs
stable_values pairs sorted h key =
    let x : Pair = record { key = key; value = [] } in
    let alike : (p : Pair) → ties before_pair x p ≡ is_same p.key key = λ p. ties_are key p.key in
    ap (map (λ (p : Pair). p.value)) (sym (filter_alike (ties before_pair x) (λ (p : Pair). is_same p.key key) alike sorted) ∙ h x ∙ filter_alike (ties before_pair x) (λ (p : Pair). is_same p.key key) alike pairs)

pub ascend_sorted : (sorted : List Pair) → IsSortedBy before_pair sorted → Ascend sorted
ascend_sorted sorted h = rising sorted (sorted_far before_pair before_pair_order sorted h)

pub gathered_stable : (pairs sorted : List Pair) → Ascend sorted → IsStableBy before_pair pairs sorted → Gathers pairs (grouped sorted)
gathered_stable pairs sorted h s key = grouped_values sorted h key ∙ stable_values pairs sorted s key
