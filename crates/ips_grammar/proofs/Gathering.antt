-- The attributes that `key=value` give: each is put into the attributes of those behind it.
use Rattle.std.proofs.Common.{◌≡◌, ℕ, Bool, true, false, cond, List, [], ◌∷◌, map, refl, sym, ap, ◌∙◌, subst, arith}
use Rattle.std.specs.Prelude.{filter}
use Rattle.std.specs.List.{AllByRecursion}
use Rattle.std.specs.Ordering.{ordering_reverse}
use Rattle.std.specs.declared.cmp.Ordering.{Ordering}
use Rattle.std.specs.declared.cmp.Ordering.TheVariants.{Less, Equal, Greater}
use Rattle.ips_line.specs.declared.words.Pair.{Pair}
use Rattle.ips_action.specs.Attrs.{Attr}
use Rattle.ips_action.specs.Attrs.{is_same, IsBefore, AreAttrs, values_of, values_in, Gathers}
use Rattle.ips_action.specs.Gathering.{single}
use Rattle.ips_action.proofs.KeyOrder.{by_bytes, same_true, same_self, before_other, before_trans, equal_is, turned}
use Rattle.ips_action.proofs.Gathered.{later_none, all_later}

-- the attributes with one more value, before the other values of its key; the attributes behind the first have it already
abbrev put_by : Ordering → Pair → Attr → List Attr → List Attr → List Attr
put_by Less p a attrs put = single p ∷ a ∷ attrs
put_by Equal p a attrs put = record { key = a.key; values = p.value ∷ a.values } ∷ attrs
put_by Greater p a attrs put = a ∷ put

abbrev put : Pair → List Attr → List Attr
put p [] = single p ∷ []
put p (a ∷ attrs) = put_by (by_bytes p.key a.key) p a attrs (put p attrs)

abbrev pub gather : List Pair → List Attr
gather [] = []
gather (p ∷ pairs) = put p (gather pairs)

-- ---- they stand in order

put_all : (P : List ℕ → Type 0) (p : Pair) (attrs : List Attr) → AllByRecursion (λ (a : Attr). P a.key) attrs → P p.key → AllByRecursion (λ (a : Attr). P a.key) (put p attrs)
put_all P p [] h g = (g, tt)
put_all P p (a ∷ attrs) h g = go (by_bytes p.key a.key) (put_all P p attrs h.1 g)
  where
    go : (o : Ordering) → AllByRecursion (λ (a : Attr). P a.key) (put p attrs) → AllByRecursion (λ (a : Attr). P a.key) (put_by o p a attrs (put p attrs))
    go Less rest = (g, h)
    go Equal rest = h
    go Greater rest = (h.0, rest)

put_attrs : (p : Pair) (attrs : List Attr) → AreAttrs attrs → AreAttrs (put p attrs)
put_attrs p [] h = (omega arith, tt, tt)
put_attrs p (a ∷ attrs) h = go (by_bytes p.key a.key) refl (put_attrs p attrs h.2)
  where
    go : (o : Ordering) → by_bytes p.key a.key ≡ o → AreAttrs (put p attrs) → AreAttrs (put_by o p a attrs (put p attrs))
    go Less e rest = (omega arith, (e, all_later attrs p.key a.key e h.1), h)
    go Equal e rest = (omega arith, h.1, h.2)
    go Greater e rest = (h.0, put_all (IsBefore a.key) p attrs h.1 (turned a.key p.key ∙ ap ordering_reverse e), rest)

pub gather_attrs : (pairs : List Pair) → AreAttrs (gather pairs)
gather_attrs [] = tt
gather_attrs (p ∷ pairs) = put_attrs p (gather pairs) (gather_attrs pairs)

-- ---- they have the values

first_given : (t : Bool) (v : List ℕ) (rest : List (List ℕ)) → (t ≡ true → rest ≡ []) → cond t (v ∷ []) rest ≡ cond t (v ∷ rest) rest
first_given true v rest empty = ap (λ (l : List (List ℕ)). v ∷ l) (sym (empty refl))
first_given false v rest empty = refl

same_given : (t : Bool) (v : List ℕ) (values rest : List (List ℕ)) → cond t (v ∷ values) rest ≡ cond t (v ∷ cond t values rest) (cond t values rest)
same_given true v values rest = refl
same_given false v values rest = refl

later_given : (s t : Bool) (v : List ℕ) (values was now : List (List ℕ)) → (s ≡ true → t ≡ false) → now ≡ cond t (v ∷ was) was → cond s values now ≡ cond t (v ∷ cond s values was) (cond s values was)
later_given true t v values was now apart e = rw (apart refl) refl
later_given false t v values was now apart e = e

apart : (a b key : List ℕ) → IsBefore a b → is_same a key ≡ true → (t : Bool) → is_same b key ≡ t → t ≡ false
apart a b key before is true other =
    let same : b ≡ a = same_true b key other ∙ sym (same_true a key is) in
    let differ : is_same a b ≡ false = before_other a b before in
    let alike : is_same a b ≡ true = same_self a b (sym same) in
    absurd cc
apart a b key before is false other = refl

put_values : (key : List ℕ) (p : Pair) (attrs : List Attr) → AreAttrs attrs → values_of key (put p attrs) ≡ cond (is_same p.key key) (p.value ∷ values_of key attrs) (values_of key attrs)
put_values key p [] h = refl
put_values key p (a ∷ attrs) h = go (by_bytes p.key a.key) refl (put_values key p attrs h.2)
  where
    go : (o : Ordering) → by_bytes p.key a.key ≡ o → values_of key (put p attrs) ≡ cond (is_same p.key key) (p.value ∷ values_of key attrs) (values_of key attrs)
        → values_of key (put_by o p a attrs (put p attrs)) ≡ cond (is_same p.key key) (p.value ∷ values_of key (a ∷ attrs)) (values_of key (a ∷ attrs))
    go Less e rest =
        first_given (is_same p.key key) p.value (values_of key (a ∷ attrs)) (λ is.
        let P : List ℕ → Type 0 = λ k. AllByRecursion (λ (x : Attr). IsBefore k x.key) (a ∷ attrs) in
        later_none (a ∷ attrs) key (subst P (same_true p.key key is) (e, all_later attrs p.key a.key e h.1)))
    go Equal e rest =
        let same : p.key ≡ a.key = equal_is p.key a.key e in
        same_given (is_same a.key key) p.value a.values (values_of key attrs)
        ∙ ap (λ (k : List ℕ). cond (is_same k key) (p.value ∷ values_of key (a ∷ attrs)) (values_of key (a ∷ attrs))) (sym same)
    go Greater e rest =
        let before : IsBefore a.key p.key = turned a.key p.key ∙ ap ordering_reverse e in
        later_given (is_same a.key key) (is_same p.key key) p.value a.values (values_of key attrs) (values_of key (put p attrs)) (λ is. apart a.key p.key key before is (is_same p.key key) refl) rest

pub gather_gathers : (pairs : List Pair) → Gathers pairs (gather pairs)
gather_gathers [] key = refl
gather_gathers (p ∷ pairs) key = put_values key p (gather pairs) (gather_attrs pairs) ∙ go (is_same p.key key) (gather_gathers pairs key)
  where
    go : (t : Bool) → values_of key (gather pairs) ≡ values_in key pairs
        → cond t (p.value ∷ values_of key (gather pairs)) (values_of key (gather pairs)) ≡ map (λ (q : Pair). q.value) (cond t (p ∷ filter (λ (q : Pair). is_same q.key key) pairs) (filter (λ (q : Pair). is_same q.key key) pairs))
    go true rest = ap (λ (l : List (List ℕ)). p.value ∷ l) rest
    go false rest = rest
