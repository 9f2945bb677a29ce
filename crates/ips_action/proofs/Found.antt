-- A key that is sought among places that stand by their keys.
use Rattle.std.proofs.Common.{◌≡◌, ℕ, zero, suc, ◌<◌, ◌≤◌, Bool, true, false, not, cond, List, [], ◌∷◌, map, take, drop, length, get_or, refl, sym, ◌∙◌, ap, subst, arith, ◌⊎◌, inl, inr}
use Rattle.std.specs.Prelude.{filter}
use Rattle.std.specs.declared.cmp.Ordering.{Ordering}
use Rattle.std.specs.declared.cmp.Ordering.TheVariants.{Less, Equal, Greater}
use Rattle.std.specs.Ordering.{is_lt, is_gt}
use Rattle.std.specs.List.{AllByRecursion, AllWithin, slice_range}
use Rattle.std.specs.List.Sorted.{IsPartitionedBy, IsPartitionPoint}
use Rattle.std.proofs.lemmas.List.Elements.{All-from_recursion}
use Rattle.std.proofs.lemmas.Bool.{cases_lt}
use Rattle.ips_text.proofs.Truths.{not_true}
use Rattle.ips_line.specs.declared.words.Pair.{Pair}
use Rattle.ips_action.specs.declared.values.Slot.{Slot}
use Rattle.ips_action.specs.Attrs.{Attr, is_same, IsBefore, AreAttrs, values_of, values_in}
use Rattle.ips_action.specs.Gathering.{UpTo, Ascend}
use Rattle.ips_action.specs.Held.{IsHeld, value_at, values_at, pair_at, pairs_at, attrs_at}
use Rattle.ips_action.proofs.KeyOrder.{by_bytes, same_true, same_self, equal_is, self_equal, before_other, before_trans}
use Rattle.ips_action.proofs.Gathered.{grouped_values}

-- the key comes before the name
abbrev pub is_before : List ℕ → Slot → Bool
is_before name slot = is_lt (by_bytes slot.key name)

-- the key doesn't come behind the name
abbrev pub is_up_to : List ℕ → Slot → Bool
is_up_to name slot = not (is_gt (by_bytes slot.key name))

-- ---- keys that stand in order part at each name

upto_trans : (a b c : List ℕ) → UpTo a b → UpTo b c → UpTo a c
upto_trans a b c u v = go (by_bytes a b) refl (by_bytes b c) refl u v
  where
    go : (o : Ordering) → by_bytes a b ≡ o → (r : Ordering) → by_bytes b c ≡ r → is_gt o ≡ false → is_gt r ≡ false → is_gt (by_bytes a c) ≡ false
    go Less e Less f g h = ap is_gt (before_trans a b c e f)
    go Less e Equal f g h = let P : List ℕ → Type 0 = λ x. by_bytes a x ≡ Less in ap is_gt (subst P (equal_is b c f) e)
    go Equal e Less f g h = let P : List ℕ → Type 0 = λ x. by_bytes x c ≡ Less in ap is_gt (subst P (sym (equal_is a b e)) f)
    go Equal e Equal f g h = let P : List ℕ → Type 0 = λ x. by_bytes x c ≡ Equal in ap is_gt (subst P (sym (equal_is a b e)) f)
    go Greater e r f g h = absurd cc
    go Less e Greater f g h = absurd cc
    go Equal e Greater f g h = absurd cc

upto_before : (a b c : List ℕ) → UpTo a b → IsBefore b c → IsBefore a c
upto_before a b c u h = go (by_bytes a b) refl u
  where
    go : (o : Ordering) → by_bytes a b ≡ o → is_gt o ≡ false → IsBefore a c
    go Less e g = before_trans a b c e h
    go Equal e g = let P : List ℕ → Type 0 = λ x. IsBefore x c in subst P (sym (equal_is a b e)) h
    go Greater e g = absurd cc

-- the key of an earlier place doesn't come behind that of a later one
pub ascends : (text : List ℕ) (slots : List Slot) → Ascend (pairs_at text slots) → (i j : ℕ) (d : Slot) → i < j → j < length slots → UpTo (get_or slots i d).key (get_or slots j d).key
ascends text [] h i j d lt in_ = absurd (omega arith)
ascends text (s ∷ slots) h zero zero d lt in_ = absurd (omega arith)
ascends text (s ∷ slots) h zero (suc j) d lt in_ = later slots h.0 j (omega arith)
  where
    later : (slots : List Slot) → AllByRecursion (λ (q : Pair). UpTo s.key q.key) (pairs_at text slots) → (j : ℕ) → j < length slots → UpTo s.key (get_or slots j d).key
    later [] g j lt = absurd (omega arith)
    later (x ∷ slots) g zero lt = g.0
    later (x ∷ slots) g (suc j) lt = later slots g.1 j (omega arith)
ascends text (s ∷ slots) h (suc i) zero d lt in_ = absurd (omega arith)
ascends text (s ∷ slots) h (suc i) (suc j) d lt in_ = ascends text slots h.1 i j d (omega arith) (omega arith)

lt_before : (a b : List ℕ) → is_lt (by_bytes a b) ≡ true → IsBefore a b
lt_before a b e = go (by_bytes a b) refl e
  where
    go : (o : Ordering) → by_bytes a b ≡ o → is_lt o ≡ true → by_bytes a b ≡ Less
    go Less f g = f
    go Equal f g = absurd cc
    go Greater f g = absurd cc

pub parts_before : (text : List ℕ) (slots : List Slot) (name : List ℕ) → Ascend (pairs_at text slots) → IsPartitionedBy (is_before name) slots
parts_before text slots name h i j d le lt e = go (cases_lt i j)
  where
    key : ℕ → List ℕ
    key k = (get_or slots k d).key

    go : (i < j) ⊎ (j ≤ i) → is_before name (get_or slots i d) ≡ true
    go (inl low) = ap is_lt (upto_before (key i) (key j) name (ascends text slots h i j d low lt) (lt_before (key j) name e))
    go (inr high) = let same : i ≡ j = omega arith in rw same e

pub parts_up_to : (text : List ℕ) (slots : List Slot) (name : List ℕ) → Ascend (pairs_at text slots) → IsPartitionedBy (is_up_to name) slots
parts_up_to text slots name h i j d le lt e = go (cases_lt i j)
  where
    key : ℕ → List ℕ
    key k = (get_or slots k d).key

    go : (i < j) ⊎ (j ≤ i) → is_up_to name (get_or slots i d) ≡ true
    go (inl low) = ap not (upto_trans (key i) (key j) name (ascends text slots h i j d low lt) (not_true (is_gt (by_bytes (key j) name)) e))
    go (inr high) = let same : i ≡ j = omega arith in rw same e

-- ---- what stands between the places where they part

-- the first place that isn't before a name isn't behind the first that is past it
pub parts_in_order : (slots : List Slot) (name : List ℕ) (i j : ℕ) (d : Slot) → i ≤ length slots
    → IsPartitionPoint (λ s. is_before name s ≡ true) (λ s. is_before name s ≡ false) slots i → IsPartitionPoint (λ s. is_up_to name s ≡ true) (λ s. is_up_to name s ≡ false) slots j → i ≤ j
parts_in_order slots name i j d in_ h g = go (cases_lt j i)
  where
    both : (o : Ordering) → is_lt o ≡ true → not (is_gt o) ≡ false → ⊥
    both Less e f = cc
    both Equal e f = cc
    both Greater e f = cc

    go : (j < i) ⊎ (i ≤ j) → i ≤ j
    go (inl low) = absurd (both (by_bytes (get_or slots j d).key name) (h.0 j d (omega arith) low) (g.1 j d (omega arith) (omega arith)))
    go (inr high) = high

-- a list of which only the front passes
in_front : {X : Type 0} (p : X → Bool) (xs : List X) (j : ℕ) → AllWithin (λ x. p x ≡ true) xs 0 j → AllWithin (λ x. p x ≡ false) xs j (length xs) → j ≤ length xs → filter p xs ≡ take j xs
in_front p [] zero some past in_ = refl
in_front p [] (suc j) some past in_ = absurd (omega arith)
in_front p (x ∷ xs) zero some past in_ =
    rw (past zero x (omega arith) (omega arith)) (in_front p xs zero (λ k d a b. absurd (omega arith)) (λ k d a b. past (suc k) d (omega arith) (omega arith)) (omega arith))
in_front p (x ∷ xs) (suc j) some past in_ =
    rw (some zero x (omega arith) (omega arith)) (ap (λ l. x ∷ l) (in_front p xs j (λ k d a b. some (suc k) d (omega arith) (omega arith)) (λ k d a b. past (suc k) d (omega arith) (omega arith)) (omega arith)))

-- a list of which only a range passes
in_range : {X : Type 0} (p : X → Bool) (xs : List X) (i j : ℕ) → i ≤ j
    → AllWithin (λ x. p x ≡ false) xs 0 i → AllWithin (λ x. p x ≡ true) xs i j → AllWithin (λ x. p x ≡ false) xs j (length xs) → j ≤ length xs → filter p xs ≡ slice_range xs i j
in_range p xs zero j le none some past in_ = in_front p xs j some past in_ ∙ ap (λ (n : ℕ). take n xs) (omega arith)
in_range p [] (suc i) j le none some past in_ = absurd (omega arith)
in_range p (x ∷ xs) (suc i) zero le none some past in_ = absurd (omega arith)
in_range p (x ∷ xs) (suc i) (suc j) le none some past in_ =
    rw (none zero x (omega arith) (omega arith)) (in_range p xs i j (omega arith) (λ k d a b. none (suc k) d (omega arith) (omega arith)) (λ k d a b. some (suc k) d (omega arith) (omega arith)) (λ k d a b. past (suc k) d (omega arith) (omega arith)) (omega arith)
    ∙ ap (λ (n : ℕ). take n (drop i xs)) (omega arith))

-- the values of a key, by its places
values_at_places : (text : List ℕ) (slots : List Slot) (name : List ℕ) → values_in name (pairs_at text slots) ≡ values_at text (filter (λ s. is_same s.key name) slots)
values_at_places text [] name = refl
values_at_places text (s ∷ slots) name = go (is_same s.key name) (values_at_places text slots name)
  where
    rest : List Pair
    rest = filter (λ (q : Pair). is_same q.key name) (pairs_at text slots)

    go : (t : Bool) → map (λ (q : Pair). q.value) rest ≡ values_at text (filter (λ (s : Slot). is_same s.key name) slots)
        → map (λ (q : Pair). q.value) (cond t (pair_at text s ∷ rest) rest) ≡ values_at text (cond t (s ∷ filter (λ (s : Slot). is_same s.key name) slots) (filter (λ (s : Slot). is_same s.key name) slots))
    go true e = ap (λ l. value_at text s ∷ l) e
    go false e = e

neither : (a b : List ℕ) → is_lt (by_bytes a b) ≡ false → not (is_gt (by_bytes a b)) ≡ true → is_same a b ≡ true
neither a b e f = go (by_bytes a b) refl e f
  where
    go : (o : Ordering) → by_bytes a b ≡ o → is_lt o ≡ false → not (is_gt o) ≡ true → is_same a b ≡ true
    go Less g e f = absurd cc
    go Equal g e f = same_self a b (equal_is a b g)
    go Greater g e f = absurd cc

past_other : (a b : List ℕ) → not (is_gt (by_bytes a b)) ≡ false → is_same a b ≡ false
past_other a b e = go (is_same a b) refl
  where
    go : (t : Bool) → is_same a b ≡ t → t ≡ false
    go true f = let P : List ℕ → Type 0 = λ x. not (is_gt (by_bytes a x)) ≡ false in let at : not (is_gt (by_bytes a a)) ≡ false = subst P (sym (same_true a b f)) e in absurd (cc (at, self_equal a))
    go false f = refl

pub values_between : (text : List ℕ) (slots : List Slot) (name : List ℕ) (i j : ℕ) → IsHeld text slots → i ≤ j → j ≤ length slots
    → IsPartitionPoint (λ s. is_before name s ≡ true) (λ s. is_before name s ≡ false) slots i → IsPartitionPoint (λ s. is_up_to name s ≡ true) (λ s. is_up_to name s ≡ false) slots j
    → values_at text (slice_range slots i j) ≡ values_of name (attrs_at text slots)
values_between text slots name i j held le in_ h g =
    ap (values_at text) (sym (in_range (λ (s : Slot). is_same s.key name) slots i j le
    (λ k d a b. before_other (get_or slots k d).key name (lt_before (get_or slots k d).key name (h.0 k d a b)))
    (λ k d a b. neither (get_or slots k d).key name (h.1 k d a (omega arith)) (g.0 k d (omega arith) b))
    (λ k d a b. past_other (get_or slots k d).key name (g.1 k d a b)) in_))
    ∙ sym (values_at_places text slots name)
    ∙ sym (grouped_values (pairs_at text slots) held.ascend name)

-- ---- an attribute among others

pub found_at : (attrs : List Attr) (name : List ℕ) (i : ℕ) (d : Attr) → AreAttrs attrs → i < length attrs → by_bytes (get_or attrs i d).key name ≡ Equal → values_of name attrs ≡ (get_or attrs i d).values
found_at [] name i d h lt e = absurd (omega arith)
found_at (a ∷ attrs) name zero d h lt e = rw (same_self a.key name (equal_is a.key name e)) refl
found_at (a ∷ attrs) name (suc i) d h lt e =
    let later : IsBefore a.key (get_or attrs i d).key = All-from_recursion (λ (x : Attr). IsBefore a.key x.key) attrs h.1 i d (omega arith) in
    let P : List ℕ → Type 0 = IsBefore a.key in
    rw (before_other a.key name (subst P (equal_is (get_or attrs i d).key name e) later)) (found_at attrs name i d h.2 (omega arith) e)
