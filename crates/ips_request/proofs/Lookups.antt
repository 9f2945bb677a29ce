-- What is looked up by stems.
use Rattle.std.proofs.Common.{◌≡◌, ℕ, suc, ◌+◌, ◌-◌, ◌<◌, ◌≤◌, ltb, Bool, true, false, not, cond, ◌&&◌, ◌||◌, List, [], ◌∷◌, ◌++◌, map, find, filter, flat_map, take, position, length, slice_get, get_or, Option, Some, None, is_some, option_map, refl, sym, ap, subst, ◌∙◌, inl, inr, arith, bytes_eq, String, Global, string_bytes, append-nil, append_assoc}
use Rattle.std.specs.List.Sorted.{IsStrictlySortedBy}
use Rattle.std.specs.Ordering.{nat_cmp}
use Rattle.std.specs.Cmp.Lexicographic.{slice_cmp}
use Rattle.std.specs.declared.cmp.Ordering.TheVariants.{Less}
use Rattle.std.specs.List.{AllByRecursion, last_or, list_any, list_all, position_or_len}
use Rattle.std.proofs.lemmas.Bool.{both_ways, cases_Bool, or_left, or_right, cond_both, cond-true, cond-false, false_from_ne_true}
use Rattle.std.proofs.lemmas.List.{map_push, take_more, length-map}
use Rattle.std.proofs.lemmas.List.Folds.{find_at, list_all-map, list_all_at, list_any_at, list_any-append}
use Rattle.std.proofs.lemmas.List.Concat.{flat_map-append}
use Rattle.std.proofs.lemmas.List.Elements.{filter-append}
use Rattle.std.proofs.lemmas.Option.{none-some, same_Some, slice_get_past, slice_get_within, get_or_from_slice_get}
use Rattle.indexmap.specs.IndexSet.{insert_key}
use Rattle.ips_fmri.specs.Version.{Parts}
use Rattle.ips_fmri.specs.declared.fmri.Fmri.{Fmri}
use Rattle.ips_action.proofs.Judged.{any_mapped}
use Rattle.ips_action.proofs.KeyOrder.{self_equal}
use Rattle.ips_depend.specs.Matching.{admits}
use Rattle.ips_request.specs.Stems.{has, put, put_all, firsts, stems_of}
use Rattle.ips_request.specs.Case.{Naming}
use Rattle.ips_request.specs.Subject.{seen_naming}
use Rattle.ips_request.specs.declared.asking.Naming as declared
use Rattle.ips_request.proofs.StemLists.{AreDistinct, same_stem, number_found}
use Rattle.ips_text.proofs.Truths.{or_false, or_assoc}
use Rattle.ips_text.proofs.Lists.{take_item}
use Rattle.ips_outside.proofs.Looks.{and_true}

-- ---- stems that are put in

-- a key that is put in
pub key_put : (keys : List (String Global)) (k : String Global) (stem : List ℕ) → string_bytes k ≡ stem → has stem (stems_of keys) ≡ false
    → stems_of (insert_key (λ x y. bytes_eq (string_bytes x) (string_bytes y)) keys k) ≡ put (stems_of keys) stem
key_put keys k stem e none =
    let absent : list_any (λ (x : String Global). bytes_eq (string_bytes k) (string_bytes x)) keys ≡ false =
    sym (any_mapped (λ (x : String Global). string_bytes x) (bytes_eq (string_bytes k)) keys) ∙ ap (λ s. has s (stems_of keys)) e ∙ none in
    ap stems_of (cond-false (list_any (λ (x : String Global). bytes_eq (string_bytes k) (string_bytes x)) keys) keys (keys ++ k ∷ []) absent)
    ∙ map_push (λ (x : String Global). string_bytes x) keys k ∙ ap (λ s. stems_of keys ++ s ∷ []) e
    ∙ sym (cond-false (has stem (stems_of keys)) (stems_of keys) (stems_of keys ++ stem ∷ []) none)

pub put_all_append : (xs ys zs : List (List ℕ)) → put_all xs (ys ++ zs) ≡ put_all (put_all xs ys) zs
put_all_append xs [] zs = refl
put_all_append xs (y ∷ ys) zs = put_all_append (put xs y) ys zs

-- more stems are put in behind those of before
pub put_next : (init cur new before more after : List (List ℕ)) → after ≡ before ++ more → cur ≡ put_all init before → new ≡ put_all cur more → new ≡ put_all init after
put_next init cur new before more after split done now = now ∙ ap (λ c. put_all c more) done ∙ sym (put_all_append init before more) ∙ sym (ap (put_all init) split)

-- ---- stems that are put in once

or_same : (b c : Bool) → (c ≡ true → b ≡ true) → b ≡ (b || c)
or_same true c w = refl
or_same false true w = w refl
or_same false false w = refl

has_put : (x s : List ℕ) (xs : List (List ℕ)) → has x (put xs s) ≡ (has x xs || bytes_eq x s)
has_put x s xs = cond_both (has s xs) xs (xs ++ s ∷ []) (λ l. has x l ≡ (has x xs || bytes_eq x s))
    (λ e. or_same (has x xs) (bytes_eq x s) (λ h. subst (λ y. has y xs ≡ true) (sym (same_stem x s h)) e))
    (λ e. list_any-append (bytes_eq x) xs (s ∷ []) ∙ ap (λ b. has x xs || b) (sym (or_false (bytes_eq x s))))

has_put_all : (x : List ℕ) (more xs : List (List ℕ)) → has x (put_all xs more) ≡ (has x xs || has x more)
has_put_all x [] xs = or_false (has x xs)
has_put_all x (s ∷ more) xs = has_put_all x more (put xs s) ∙ ap (λ b. b || has x more) (has_put x s xs) ∙ or_assoc (has x xs) (bytes_eq x s) (has x more)

-- stems are the same with each of them once
pub has_once : (x : List ℕ) (xs : List (List ℕ)) → has x (firsts xs) ≡ has x xs
has_once x xs = has_put_all x xs []

-- ---- look-ups by number

position_map : {X Y : Type 0} (f : X → Y) (p : Y → Bool) (xs : List X) → position_or_len p (map f xs) ≡ position_or_len (λ x. p (f x)) xs
position_map f p [] = refl
position_map f p (x ∷ xs) = ap (λ (n : ℕ). cond (not (p (f x))) (1 + n) 0) (position_map f p xs)

cond_some : (b : Bool) (i n : ℕ) → Some i ≡ cond b (Some n) None → i ≡ n
cond_some true i n e = same_Some i n e
cond_some false i n e = absurd (none-some i (sym e))

cond_none : (n m : ℕ) → None ≡ cond (ltb n m) (Some n) None → m ≤ n
cond_none n m e = elim (cases_Bool (ltb n m)) [
  | inl h ↦ absurd (none-some n (e ∙ cond-true (ltb n m) (Some n) None h))
  | inr h ↦ not_below n m h
]
  where
    not_below : (n m : ℕ) → ltb n m ≡ false → m ≤ n
    not_below n m h = grind arith

module _ {X : Type 0} (f : X → List ℕ) (stem : List ℕ) (xs : List X) (keys : List (List ℕ)) (known : keys ≡ map f xs) where
  -- the place of the first with the stem
  place : position_or_len (bytes_eq stem) keys ≡ position_or_len (λ x. bytes_eq stem (f x)) xs
  place = ap (position_or_len (bytes_eq stem)) known ∙ position_map f (bytes_eq stem) xs

  pub found_at : (i : ℕ) → Some i ≡ position (bytes_eq stem) keys → slice_get xs i ≡ find (λ x. bytes_eq stem (f x)) xs
  found_at i e =
      let n = position_or_len (bytes_eq stem) keys in
      ap (slice_get xs) (cond_some (ltb n (length keys)) i n e ∙ place) ∙ sym (find_at (λ x. bytes_eq stem (f x)) xs)

  pub found_none : None ≡ position (bytes_eq stem) keys → None ≡ find (λ x. bytes_eq stem (f x)) xs
  found_none e =
      let past = cond_none (position_or_len (bytes_eq stem) keys) (length keys) e in
      let long = ap (λ (ks : List (List ℕ)). length ks) known in
      let same = length-map xs f in
      let here = place in
      sym (find_at (λ x. bytes_eq stem (f x)) xs ∙ slice_get_past xs (position_or_len (λ x. bytes_eq stem (f x)) xs) (omega arith))

-- the number of a stem among keys is its number among their texts
pub number_among_keys : (stem : List ℕ) (keys : List (String Global)) → position (λ k. bytes_eq stem (string_bytes k)) keys ≡ position (bytes_eq stem) (stems_of keys)
number_among_keys stem keys =
    let at = sym (position_map (λ (k : String Global). string_bytes k) (bytes_eq stem) keys) in
    let long = sym (length-map keys (λ (k : String Global). string_bytes k)) in
    λ i. cond (ltb (at i) (long i)) (Some (at i)) None

-- ---- freezes

-- a freeze admits the version, where there is one
abbrev pub admits_where : Option Fmri → Parts → Bool
admits_where None v = true
admits_where (Some f) v = admits f.version v

none_alike : (stem : List ℕ) (v : Parts) (fs : List Fmri) → has stem (map (λ (f : Fmri). f.stem) fs) ≡ false → list_all (λ (f : Fmri). not (bytes_eq stem f.stem) || admits f.version v) fs ≡ true
none_alike stem v [] h = refl
none_alike stem v (f ∷ fs) h = elim (cases_Bool (bytes_eq stem f.stem)) [
  | inl e ↦ absurd (both_ways (has stem (map (λ (f : Fmri). f.stem) (f ∷ fs))) h (or_left (bytes_eq stem f.stem) (has stem (map (λ (f : Fmri). f.stem) fs)) e))
  | inr e ↦
      let none = false_from_ne_true (has stem (map (λ (f : Fmri). f.stem) fs)) (λ r. both_ways (has stem (map (λ (f : Fmri). f.stem) (f ∷ fs))) h (or_right (bytes_eq stem f.stem) (has stem (map (λ (f : Fmri). f.stem) fs)) r)) in
      (λ i. (not (e i) || admits f.version v) && none_alike stem v fs none i)
]

-- of freezes of different stems, each of a stem admits a version where the first of it does
pub freeze_admitted : (stem : List ℕ) (v : Parts) (fs : List Fmri) → AreDistinct (map (λ (f : Fmri). f.stem) fs)
    → admits_where (find (λ (f : Fmri). bytes_eq stem f.stem) fs) v ≡ list_all (λ (f : Fmri). not (bytes_eq stem f.stem) || admits f.version v) fs
freeze_admitted stem v [] d = refl
freeze_admitted stem v (f ∷ fs) d = elim (cases_Bool (bytes_eq stem f.stem)) [
  | inl e ↦
      let rest = map (λ (f : Fmri). f.stem) fs in
      let none = false_from_ne_true (has stem rest) (λ h. let (i, at, there) = number_found stem rest h in later f.stem rest i d (same_stem stem f.stem e) there) in
      ap (λ o. admits_where o v) (cond-true (bytes_eq stem f.stem) (Some f) (find (λ (f : Fmri). bytes_eq stem f.stem) fs) e)
      ∙ sym ((λ i. (not (e i) || admits f.version v) && none_alike stem v fs none i) ∙ and_true (admits f.version v))
  | inr e ↦
      ap (λ o. admits_where o v) (cond-false (bytes_eq stem f.stem) (Some f) (find (λ (f : Fmri). bytes_eq stem f.stem) fs) e)
      ∙ freeze_admitted stem v fs (λ i j z l h. d (suc i) (suc j) z (omega arith) (omega arith))
      ∙ sym (ap (λ b. (not b || admits f.version v) && list_all (λ (f : Fmri). not (bytes_eq stem f.stem) || admits f.version v) fs) e)
]
  where
    later : (s : List ℕ) (rest : List (List ℕ)) (i : ℕ) → AreDistinct (s ∷ rest) → stem ≡ s → slice_get rest i ≡ Some stem → ⊥
    later s rest i d e there =
        let l = slice_get_within rest i stem there in
        d 0 (suc i) stem (omega arith) (omega arith) (sym e ∙ sym (get_or_from_slice_get rest i stem stem there))

-- ---- names and versions

-- a pattern that names the stem stands somewhere
pub named_at : (stem : List ℕ) (ns : List declared.Naming) (i : ℕ) (n : declared.Naming) → i < length ns → n ≡ get_or ns i n → has stem n.stems.items ≡ true
    → true ≡ list_any (λ (n : Naming). has stem n.stems) (map seen_naming ns)
named_at stem ns i n l at e =
    let p = λ (n : declared.Naming). has stem n.stems.items in
    sym (any_mapped seen_naming (λ (n : Naming). has stem n.stems) ns ∙ list_any_at p ns i n l (ap p (sym at) ∙ e))

-- a pattern that names the stem and doesn't admit the version stands somewhere
pub refused_at : (stem : List ℕ) (v : Parts) (ns : List declared.Naming) (i : ℕ) (n : declared.Naming) → i < length ns → n ≡ get_or ns i n → (not (has stem n.stems.items) || admits n.limit v) ≡ false
    → false ≡ list_all (λ (n : Naming). not (has stem n.stems) || admits n.limit v) (map seen_naming ns)
refused_at stem v ns i n l at e =
    let p = λ (n : declared.Naming). not (has stem n.stems.items) || admits n.limit v in
    sym (list_all-map (λ (n : Naming). not (has stem n.stems) || admits n.limit v) seen_naming ns ∙ list_all_at p ns i n l (ap p (sym at) ∙ e))

-- the last of versions
pub last_is : (vs : List Parts) → slice_get vs (length vs - 1) ≡ last_or None vs
last_is [] = refl
last_is (v ∷ vs) = ap (slice_get (v ∷ vs)) (omega arith) ∙ last_at v vs
  where
    last_at : (v : Parts) (vs : List Parts) → slice_get (v ∷ vs) (length vs) ≡ last_or (Some v) vs
    last_at v [] = refl
    last_at v (w ∷ vs) = last_at w vs

pub mapped_twice : {A B C : Type 0} (f : A → B) (g : B → C) (o : Option A) → option_map (λ x. g (f x)) o ≡ option_map g (option_map f o)
mapped_twice f g None = refl
mapped_twice f g (Some x) = refl

pub there_mapped : {A B : Type 0} (f : A → B) (o : Option A) → is_some o ≡ is_some (option_map f o)
there_mapped f None = refl
there_mapped f (Some x) = refl

-- ---- lists of lists

-- ---- filters

filtered_next : {X : Type 0} (p : X → Bool) (xs : List X) (i : ℕ) (x : X) → i < length xs → x ≡ get_or xs i x → filter p (take (i + 1) xs) ≡ filter p (take i xs) ++ cond (p x) (x ∷ []) []
filtered_next p xs i x l at = ap (filter p) (take_item xs i x l at) ∙ filter-append p (take i xs) (x ∷ [])

pub filter_kept : {X : Type 0} (p : X → Bool) (xs old : List X) (i : ℕ) (x : X) → i < length xs → x ≡ get_or xs i x → old ≡ filter p (take i xs) → p x ≡ true → old ++ x ∷ [] ≡ filter p (take (i + 1) xs)
filter_kept p xs old i x l at done e = ap (λ ys. ys ++ x ∷ []) done ∙ sym (filtered_next p xs i x l at ∙ ap (λ ys. filter p (take i xs) ++ ys) (cond-true (p x) (x ∷ []) [] e))

pub filter_left : {X : Type 0} (p : X → Bool) (xs old : List X) (i : ℕ) (x : X) → i < length xs → x ≡ get_or xs i x → old ≡ filter p (take i xs) → p x ≡ false → old ≡ filter p (take (i + 1) xs)
filter_left p xs old i x l at done e = done ∙ sym (filtered_next p xs i x l at ∙ ap (λ ys. filter p (take i xs) ++ ys) (cond-false (p x) (x ∷ []) [] e) ∙ append-nil (filter p (take i xs)))

-- ---- stems in order

apart : (x : List ℕ) (ys : List (List ℕ)) → AllByRecursion (λ y. slice_cmp nat_cmp x y ≡ Less) ys → has x ys ≡ false
apart x [] h = refl
apart x (y ∷ ys) h =
    let other = false_from_ne_true (bytes_eq x y) (λ e. let less = h.0 in let same = self_equal x in let here = ap (slice_cmp nat_cmp x) (same_stem x y e) in absurd (cc)) in
    (λ i. other i || apart x ys h.1 i)

-- stems that ascend, put in behind others that they are apart from, stand as they are
put_as_they_are : (xs acc : List (List ℕ)) → IsStrictlySortedBy (slice_cmp nat_cmp) xs → AllByRecursion (λ x. has x acc ≡ false) xs → put_all acc xs ≡ acc ++ xs
unfolding IsStrictlySortedBy
put_as_they_are [] acc s a = sym (append-nil acc)
put_as_they_are (x ∷ xs) acc s a =
    let one = cond-false (has x acc) acc (acc ++ x ∷ []) a.0 in
    ap (λ ss. put_all ss xs) one ∙ put_as_they_are xs (acc ++ x ∷ []) s.1 (kept xs s.0 a.1) ∙ append_assoc acc (x ∷ []) xs
  where
    kept : (ys : List (List ℕ)) → AllByRecursion (λ y. slice_cmp nat_cmp x y ≡ Less) ys → AllByRecursion (λ y. has y acc ≡ false) ys → AllByRecursion (λ y. has y (acc ++ x ∷ []) ≡ false) ys
    kept [] l h = tt
    kept (y ∷ ys) l h =
        let other = false_from_ne_true (bytes_eq y x) (λ e. let less = l.0 in let same = self_equal x in let here = ap (slice_cmp nat_cmp x) (same_stem y x e) in absurd (cc)) in
        (list_any-append (bytes_eq y) acc (x ∷ []) ∙ (λ i. h.0 i || (other i || false)), kept ys l.1 h.1)

nothing_there : (xs : List (List ℕ)) → AllByRecursion (λ x. has x [] ≡ false) xs
nothing_there [] = tt
nothing_there (x ∷ xs) = (refl, nothing_there xs)

-- each of stems that ascend stands once
pub firsts_once : (xs : List (List ℕ)) → IsStrictlySortedBy (slice_cmp nat_cmp) xs → firsts xs ≡ xs
firsts_once xs s = put_as_they_are xs [] s (nothing_there xs)
