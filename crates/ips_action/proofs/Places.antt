-- Places in a text of values: how they come to stand, and what a part of them is.
use Rattle.std.proofs.Common.{◌≡◌, ℕ, zero, suc, ◌+◌, ◌-◌, ◌<◌, ◌≤◌, Bool, true, false, cond, List, [], ◌∷◌, ◌++◌, take, drop, length, get_or, refl, sym, ◌∙◌, ap, subst, arith, ◌⊎◌, inl, inr}
use Rattle.std.specs.Prelude.{Some, slice_get}
use Rattle.std.specs.List.{AllByRecursion, slice_range}
use Rattle.std.specs.Str.{IsUtf8, IsCharBoundary}
use Rattle.std.proofs.lemmas.Str.{IsCharBoundary-at_seam, IsCharBoundary-end}
use Rattle.std.proofs.lemmas.List.{length-append, map-append, take-append-le, get_or_append_left}
use Rattle.std.proofs.Math.Seq.{drop-append_seam, take-length}
use Rattle.std.proofs.lemmas.Bool.{cases_lt}
use Rattle.ips_text.proofs.Lists.{all_append}
use Rattle.ips_line.specs.declared.words.Pair.{Pair}
use Rattle.ips_action.specs.declared.values.Slot.{Slot}
use Rattle.ips_action.specs.Attrs.{Attr, is_same}
use Rattle.ips_action.specs.Gathering.{Ascend, single, joined}
use Rattle.ips_action.specs.Held.{IsHeld, IsPlaced, value_at, values_at, pair_at, pairs_at, attrs_at, slot_behind, OfKey, BeginsOther}
use Rattle.ips_action.proofs.KeyOrder.{same_true, same_self}

-- ---- parts of a list

pub all_take : {X : Type 0} (P : X → Type 0) (n : ℕ) (xs : List X) → AllByRecursion P xs → AllByRecursion P (take n xs)
all_take P zero xs h = tt
all_take P (suc n) [] h = tt
all_take P (suc n) (x ∷ xs) h = (h.0, all_take P n xs h.1)

pub all_drop : {X : Type 0} (P : X → Type 0) (n : ℕ) (xs : List X) → AllByRecursion P xs → AllByRecursion P (drop n xs)
all_drop P zero xs h = h
all_drop P (suc n) [] h = tt
all_drop P (suc n) (x ∷ xs) h = all_drop P n xs h.1

pub all_range : {X : Type 0} (P : X → Type 0) (xs : List X) (i j : ℕ) → AllByRecursion P xs → AllByRecursion P (slice_range xs i j)
all_range P xs i j h = all_take P (j - i) (drop i xs) (all_drop P i xs h)

ascend_drop : (text : List ℕ) (n : ℕ) (slots : List Slot) → Ascend (pairs_at text slots) → Ascend (pairs_at text (drop n slots))
ascend_drop text zero slots h = h
ascend_drop text (suc n) [] h = tt
ascend_drop text (suc n) (s ∷ slots) h = ascend_drop text n slots h.1

pub held_drop : (text : List ℕ) (n : ℕ) (slots : List Slot) → IsHeld text slots → IsHeld text (drop n slots)
held_drop text n slots h = record { placed = all_drop (IsPlaced text) n slots h.placed; ascend = ascend_drop text n slots h.ascend }

-- ---- a value more

boundary_before : (text more : List ℕ) (i : ℕ) → IsUtf8 more → IsCharBoundary text i → IsCharBoundary (text ++ more) i
boundary_before text more i u h = go (cases_lt i (length text))
  where
    go : (i < length text) ⊎ (length text ≤ i) → IsCharBoundary (text ++ more) i
    go (inl low) =
        let same : get_or (text ++ more) i 0 ≡ get_or text i 0 = get_or_append_left text more 0 i low in
        (omega (arith, length-append text more), λ lt big. subst (λ (x : ℕ). 192 ≤ x) (sym same) (h.1 low (subst (λ (x : ℕ). 128 ≤ x) same big)))
    go (inr high) =
        let end : length text ≡ i = omega (arith, h.0) in
        subst (IsCharBoundary (text ++ more)) end (IsCharBoundary-at_seam (text ++ more) text more refl u)

placed_before : (text more : List ℕ) (slots : List Slot) → IsUtf8 more → AllByRecursion (IsPlaced text) slots → AllByRecursion (IsPlaced (text ++ more)) slots
placed_before text more [] u h = tt
placed_before text more (s ∷ slots) u h = ((h.0.0, boundary_before text more s.start u h.0.1, boundary_before text more s.end u h.0.2), placed_before text more slots u h.1)

range_before : (xs ys : List ℕ) (a b : ℕ) → a ≤ b → b ≤ length xs → slice_range (xs ++ ys) a b ≡ slice_range xs a b
range_before xs ys zero b le in_ = take-append-le (b - 0) xs ys (omega arith)
range_before [] ys (suc a) b le in_ = absurd (omega arith)
range_before (x ∷ xs) ys (suc a) zero le in_ = absurd (omega arith)
range_before (x ∷ xs) ys (suc a) (suc b) le in_ =
    let n : suc b - suc a ≡ b - a = omega arith in
    ap (λ (k : ℕ). take k (drop a (xs ++ ys))) n ∙ range_before xs ys a b (omega arith) (omega arith) ∙ ap (λ (k : ℕ). take k (drop a xs)) (sym n)

range_behind : (xs ys : List ℕ) → slice_range (xs ++ ys) (length xs) (length xs + length ys) ≡ ys
range_behind xs ys =
    let n : length xs + length ys - length xs ≡ length ys = omega arith in
    ap (take (length xs + length ys - length xs)) (drop-append_seam xs ys) ∙ ap (λ (k : ℕ). take k ys) n ∙ take-length ys

pairs_before : (text more : List ℕ) (slots : List Slot) → AllByRecursion (IsPlaced text) slots → pairs_at (text ++ more) slots ≡ pairs_at text slots
pairs_before text more [] h = refl
pairs_before text more (s ∷ slots) h =
    let same : value_at (text ++ more) s ≡ value_at text s = range_before text more s.start s.end h.0.0 h.0.2.0 in
    ap (λ (v : List ℕ). record { key = s.key; value = v } ∷ pairs_at (text ++ more) slots) same ∙ ap (λ (l : List Pair). pair_at text s ∷ l) (pairs_before text more slots h.1)

-- places of the text that hold these `key=value`
pub record Filled (text : List ℕ) (slots : List Slot) (given : List Pair) : Type 0 where
  pub placed : AllByRecursion (IsPlaced text) slots
  pub pairs : pairs_at text slots ≡ given

pub filled_push : (text : List ℕ) (slots : List Slot) (pairs : List Pair) (p : Pair) → IsUtf8 p.value → Filled text slots pairs → Filled (text ++ p.value) (slots ++ slot_behind text p ∷ []) (pairs ++ p ∷ [])
filled_push text slots pairs p u h =
    let slot : Slot = slot_behind text p in
    let end : IsCharBoundary (text ++ p.value) slot.end = subst (IsCharBoundary (text ++ p.value)) (length-append text p.value) (IsCharBoundary-end (text ++ p.value)) in
    let start : IsCharBoundary (text ++ p.value) slot.start = IsCharBoundary-at_seam (text ++ p.value) text p.value refl u in
    let new : pair_at (text ++ p.value) slot ≡ p = ap (λ (v : List ℕ). record { key = p.key; value = v }) (range_behind text p.value) in
    record {
      placed = all_append (IsPlaced (text ++ p.value)) slots (slot ∷ []) (placed_before text p.value slots u h.placed) ((omega arith, start, end), tt);
      pairs = map-append (pair_at (text ++ p.value)) slots (slot ∷ []) ∙ ap (λ (l : List Pair). l ++ pair_at (text ++ p.value) slot ∷ []) (pairs_before text p.value slots h.placed ∙ h.pairs) ∙ ap (λ (q : Pair). pairs ++ q ∷ []) new;
    }

-- ---- an attribute's places

joined_unlike : (p q : Pair) (attrs : List Attr) → is_same p.key q.key ≡ false → joined p (joined q attrs) ≡ single p ∷ joined q attrs
joined_unlike p q [] e = rw e refl
joined_unlike p q (a ∷ attrs) e = go (is_same q.key a.key)
  where
    go : (t : Bool) → joined p (cond t (record { key = q.key; values = q.value ∷ a.values } ∷ attrs) (single q ∷ a ∷ attrs)) ≡ single p ∷ cond t (record { key = q.key; values = q.value ∷ a.values } ∷ attrs) (single q ∷ a ∷ attrs)
    go true = rw e refl
    go false = rw e refl

other_key : (a b key : List ℕ) → is_same a key ≡ true → is_same b key ≡ false → is_same a b ≡ false
other_key a b key e f = go (is_same a b) refl
  where
    go : (t : Bool) → is_same a b ≡ t → t ≡ false
    go true g = let P : List ℕ → Type 0 = λ x. is_same x key ≡ true in let at : is_same b key ≡ true = subst P (same_true a b g) e in absurd cc
    go false g = refl

both_same : (a b key : List ℕ) → is_same a key ≡ true → is_same b key ≡ true → is_same a b ≡ true
both_same a b key e f = same_self a b (same_true a key e ∙ sym (same_true b key f))

run_of_key : (text key : List ℕ) (s : Slot) (rest : List Slot) (n : ℕ) → is_same s.key key ≡ true → AllByRecursion (OfKey key) (take n rest) → BeginsOther key (drop n rest)
    → attrs_at text (s ∷ rest) ≡ record { key = s.key; values = value_at text s ∷ values_at text (take n rest) } ∷ attrs_at text (drop n rest)
run_of_key text key s [] zero e h g = refl
run_of_key text key s [] (suc n) e h g = refl
run_of_key text key s (r ∷ rest) zero e h g = joined_unlike (pair_at text s) (pair_at text r) (attrs_at text rest) (other_key s.key r.key key e g)
run_of_key text key s (r ∷ rest) (suc n) e h g =
    ap (joined (pair_at text s)) (run_of_key text key r rest n h.0 h.1 g) ∙ rw (both_same s.key r.key key e h.0) refl

pub first_run : (text : List ℕ) (s : Slot) (rest : List Slot) (run : ℕ) → AllByRecursion (OfKey s.key) (take run (s ∷ rest)) → BeginsOther s.key (drop run (s ∷ rest))
    → attrs_at text (s ∷ rest) ≡ record { key = s.key; values = values_at text (take run (s ∷ rest)) } ∷ attrs_at text (drop run (s ∷ rest))
first_run text s rest zero h g = let same : is_same s.key s.key ≡ true = same_self s.key s.key refl in absurd cc
first_run text s rest (suc n) h g = run_of_key text s.key s rest n h.0 h.1 g

pub split_run : (text : List ℕ) (slots front back : List Slot) (first : Slot) (run : ℕ) → slice_get slots 0 ≡ Some first → front ≡ take run slots → back ≡ drop run slots → AllByRecursion (OfKey first.key) (take run slots) → BeginsOther first.key (drop run slots)
    → attrs_at text slots ≡ record { key = first.key; values = values_at text front } ∷ attrs_at text back
split_run text [] front back first run there e f h g = absurd cc
split_run text (s ∷ rest) front back first run there e f h g =
    let is : s ≡ first = cc in
    let P : Slot → Type 0 = λ x. AllByRecursion (OfKey x.key) (take run (s ∷ rest)) in
    let Q : Slot → Type 0 = λ x. BeginsOther x.key (drop run (s ∷ rest)) in
    let split = first_run text s rest run (subst P (sym is) h) (subst Q (sym is) g) in
    rw (e, f, sym is) split
