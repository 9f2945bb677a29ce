-- Names of licenses, as they are kept in a set.
use Rattle.std.proofs.Common.{◌≡◌, ◌∙◌, ◌∷◌, [], ◌&&◌, ◌||◌, ℕ, Bool, true, false, not, List, Bor, map, Ordering, Less, Equal, Greater, nat_cmp, refl, sym, ap}
use Rattle.std.specs.List.{AllByRecursion}
use Rattle.std.specs.List.Sorted.{IsStrictlySortedBy}
use Rattle.std.specs.BTreeSet.{insert_key}
use Rattle.std.specs.Ordering.{ordering_then}
use Rattle.std.specs.Cmp.Lexicographic.{slice_cmp}
use Rattle.std.specs.Map.Iter.{deref}
use Rattle.ips_text.specs.Ancestry.{same_path}
use Rattle.ips_text.proofs.Truths.{or_false, or_swapped, or_twice}
use Rattle.ips_action.proofs.KeyOrder.{both_equal, equal_is}
use Rattle.ips_delivered.specs.new_licenses.New.{LicenseName, has_name, license_cmp}
use Rattle.ips_delivered.specs.new_licenses.Kept.{told}

-- A name that is lent.
abbrev Pair : Type 0
Pair = Bor (List ℕ) × Bor (List ℕ)

-- names that are lent stand in the order of what is lent
abbrev pair_cmp : Pair → Pair → Ordering
pair_cmp a b = ordering_then (slice_cmp nat_cmp a.0.now b.0.now) (slice_cmp nat_cmp a.1.now b.1.now)

one_pair : (a b : Pair) → pair_cmp a b ≡ Equal → told a ≡ told b
one_pair a b is =
    let parts = both_equal (slice_cmp nat_cmp a.0.now b.0.now) (slice_cmp nat_cmp a.1.now b.1.now) is in
    (λ i. (equal_is a.0.now b.0.now parts.0 i, equal_is a.1.now b.1.now parts.1 i))

-- what a set has after one more name is kept
pub put_pair : (key : Pair) (one : LicenseName) (ks : List Pair) → has_name (map told (insert_key pair_cmp ks key)) one ≡ ((same_path key.0.now one.0 && same_path key.1.now one.1) || has_name (map told ks) one)
put_pair key one [] = refl
put_pair key one (k ∷ ks) = go (pair_cmp key k) refl (put_pair key one ks)
  where
    here : LicenseName → Bool
    here n = same_path n.0 one.0 && same_path n.1 one.1

    go : (o : Ordering) → pair_cmp key k ≡ o → has_name (map told (insert_key pair_cmp ks key)) one ≡ (here (told key) || has_name (map told ks) one) → has_name (map told (insert_key pair_cmp (k ∷ ks) key)) one ≡ (here (told key) || (here (told k) || has_name (map told ks) one))
    go Less is rest = rw is refl
    go Equal is rest = rw is (or_twice (here (told k)) (has_name (map told ks) one) ∙ ap (λ (n : LicenseName). here n || (here (told k) || has_name (map told ks) one)) (sym (one_pair key k is)))
    go Greater is rest = rw is (ap (λ (b : Bool). here (told k) || b) rest ∙ or_swapped (here (told k)) (here (told key)) (has_name (map told ks) one))

-- the order of the names that are lent
pub pairs_order : (ks : List Pair) → IsStrictlySortedBy pair_cmp ks → IsStrictlySortedBy license_cmp (map told ks)
unfolding IsStrictlySortedBy
pairs_order [] up = tt
pairs_order (k ∷ ks) up = (all_less k ks up.0, pairs_order ks up.1)
  where
    all_less : (k : Pair) (ks : List Pair) → AllByRecursion (λ (y : Pair). pair_cmp k y ≡ Less) ks → AllByRecursion (λ (y : LicenseName). license_cmp (told k) y ≡ Less) (map told ks)
    all_less k [] all = tt
    all_less k (j ∷ ks) all = (all.0, all_less k ks all.1)

pub seen_pairs : (ks : List (Bor Pair)) → map (λ (k : Bor Pair). told k.now) ks ≡ map told (map deref ks)
seen_pairs [] = refl
seen_pairs (k ∷ ks) = ap (λ (l : List LicenseName). told k.now ∷ l) (seen_pairs ks)

-- ---- what an action delivers

pub unmarked : (a m r : Bool) → (a && m) ≡ false → (a && (m && r)) ≡ false
unmarked true true r is = cc
unmarked true false r is = refl
unmarked false m r is = refl

pub marked_old : (a m w s : Bool) → (a && m) ≡ true → w ≡ true → (a && (m && (not w && s))) ≡ false
marked_old true true true s is was = refl
marked_old true true false s is was = cc
marked_old true false w s is was = cc
marked_old false m w s is was = cc

pub marked_new : (a m w s : Bool) → (a && m) ≡ true → w ≡ false → (a && (m && (not w && s))) ≡ s
marked_new true true true s is was = cc
marked_new true true false s is was = refl
marked_new true false w s is was = cc
marked_new false m w s is was = cc

-- nothing is added where nothing is delivered
pub none_more : (h d : Bool) → d ≡ false → h ≡ (h || (d || false))
none_more h d is = or_false h ∙ ap (λ (b : Bool). h || (b || false)) (sym is)

pub one_more : (h d s : Bool) → d ≡ s → (s || h) ≡ (h || (d || false))
one_more h d s is = ap (λ (b : Bool). s || b) (or_false h) ∙ or_swapped s h false ∙ ap (λ (b : Bool). h || (b || false)) (sym is)
