-- Lists of entries in order, merged.
use Rattle.std.proofs.Common.{◌≡◌, ℕ, zero, suc, ◌+◌, ◌<◌, ◌≤◌, Bool, true, false, cond, ◌||◌, List, [], ◌∷◌, ◌++◌, append_assoc, map, length, drop, Option, Some, None, is_some, refl, sym, ◌∙◌, ap, subst, ◌⊎◌, inl, inr, arith}
use Rattle.std.specs.Prelude.{IfNone, IfSome, slice_get}
use Rattle.std.specs.Option.{option_map}
use Rattle.std.specs.declared.cmp.Ordering.{Ordering}
use Rattle.std.specs.declared.cmp.Ordering.TheVariants.{Less, Equal, Greater}
use Rattle.std.specs.List.{AllByRecursion}
use Rattle.std.specs.List.Sorted.{IsStrictlySortedBy}
use Rattle.std.specs.Ordering.{nat_cmp, ordering_reverse}
use Rattle.std.specs.Cmp.Lexicographic.{slice_cmp, nat_list_cmp_total}
use Rattle.std.specs.FinMap.{slice_cmp-IsAntisymmetric, nat_cmp-IsAntisymmetric}
use Rattle.std.proofs.lemmas.Bool.{false_from_ne_true}
use Rattle.std.proofs.lemmas.List.{append-nil}
use Rattle.std.proofs.lemmas.Option.{same_Some, slice_get_past}
use Rattle.ips_text.specs.Ancestry.{same_path}
use Rattle.ips_text.proofs.Ancestry.{same_path-true, same_path-self}
use Rattle.ips_text.proofs.Truths.{or_assoc, or_swapped}
use Rattle.ips_meaning.specs.declared.entry.Entry.{Entry}
use Rattle.ips_after.specs.Lists.{listed}
use Rattle.ips_change.specs.wanted.Wanted.{wanted_among, wanted_of}
use Rattle.ips_change.proofs.wanted.Found.{listed_at}
use Rattle.ips_change.specs.survey.Pairs.{Pair, first, lesser, new_alone, old_alone, ranked, taken, together}
use Rattle.ips_change.specs.survey.Rows.{AreRows, HasBoth}

abbrev pub Entries : Type 0
Entries = List (List ℕ × Entry)

abbrev pub keys_of : Entries → List (List ℕ)
keys_of entries = map (λ (e : List ℕ × Entry). e.0) entries

abbrev paths_of : List Pair → List (List ℕ)
paths_of pairs = map (λ (pair : Pair). pair.path) pairs

-- the path comes before all of these
abbrev Before : List ℕ → List (List ℕ) → Type 0
Before p paths = AllByRecursion (λ (q : List ℕ). slice_cmp nat_cmp p q ≡ Less) paths

-- the path comes before the first of these
abbrev pub Ahead : List ℕ → Entries → Type 0
Ahead p [] = Unit {0}
Ahead p (y ∷ ys) = slice_cmp nat_cmp p y.0 ≡ Less

-- a pair of the first list alone, and what comes then
pub record OldFirst (pair : Pair) (xs ys : Entries) (then : Entries → Entries → Type 0) : Type 0 where
  pub x : List ℕ × Entry
  pub more : Entries
  pub is : xs ≡ x ∷ more
  pub row : pair ≡ old_alone x
  pub ahead : Ahead x.0 ys
  pub rest : then more ys

pub record NewFirst (pair : Pair) (xs ys : Entries) (then : Entries → Entries → Type 0) : Type 0 where
  pub y : List ℕ × Entry
  pub more : Entries
  pub is : ys ≡ y ∷ more
  pub row : pair ≡ new_alone y
  pub ahead : Ahead y.0 xs
  pub rest : then xs more

pub record BothFirst (pair : Pair) (xs ys : Entries) (then : Entries → Entries → Type 0) : Type 0 where
  pub x : List ℕ × Entry
  pub y : List ℕ × Entry
  pub olds : Entries
  pub news : Entries
  pub is_old : xs ≡ x ∷ olds
  pub is_new : ys ≡ y ∷ news
  pub row : pair ≡ together x y
  pub one : x.0 ≡ y.0
  pub rest : then olds news

-- the pairs are the two lists merged
abbrev pub Merges : List Pair → Entries → Entries → Type 0
Merges [] xs ys = (xs ≡ []) × (ys ≡ [])
Merges (pair ∷ rest) xs ys = OldFirst pair xs ys (Merges rest) ⊎ NewFirst pair xs ys (Merges rest) ⊎ BothFirst pair xs ys (Merges rest)

-- ---- order

above : (p y : List ℕ) (zs : List (List ℕ)) → slice_cmp nat_cmp p y ≡ Less → Before y zs → Before p zs
above p y [] less all = tt
above p y (z ∷ zs) less all = (nat_list_cmp_total.trans p y z less all.0, above p y zs less all.1)

before_all : (p : List ℕ) (ys : Entries) → Ahead p ys → IsStrictlySortedBy (slice_cmp nat_cmp) (keys_of ys) → Before p (keys_of ys)
unfolding IsStrictlySortedBy
before_all p [] ahead order = tt
before_all p (y ∷ ys) ahead order = (ahead, above p y.0 (keys_of ys) ahead order.0)

sorted_rest : (x : List ℕ × Entry) (xs : Entries) → IsStrictlySortedBy (slice_cmp nat_cmp) (keys_of (x ∷ xs)) → Before x.0 (keys_of xs) × IsStrictlySortedBy (slice_cmp nat_cmp) (keys_of xs)
unfolding IsStrictlySortedBy
sorted_rest x xs order = order

sorted_more : (p : List ℕ) (paths : List (List ℕ)) → Before p paths → IsStrictlySortedBy (slice_cmp nat_cmp) paths → IsStrictlySortedBy (slice_cmp nat_cmp) (p ∷ paths)
unfolding IsStrictlySortedBy
sorted_more p paths before order = (before, order)

sorted_none : IsStrictlySortedBy (slice_cmp nat_cmp) []
unfolding IsStrictlySortedBy
sorted_none = tt

irreflexive : (p : List ℕ) → slice_cmp nat_cmp p p ≡ Less → ⊥
irreflexive p less = go (slice_cmp nat_cmp p p) less (nat_list_cmp_total.antisymm p p)
  where
    go : (o : Ordering) → o ≡ Less → o ≡ ordering_reverse o → ⊥
    go Less h e = cc
    go Equal h e = cc
    go Greater h e = cc

apart : (p q : List ℕ) → slice_cmp nat_cmp p q ≡ Less → false ≡ same_path p q
apart p q less = sym (false_from_ne_true _ (λ same. irreflexive p (subst (λ (x : List ℕ). slice_cmp nat_cmp p x ≡ Less) (sym (same_path-true p q same)) less)))

apart_back : (p q : List ℕ) → slice_cmp nat_cmp p q ≡ Less → false ≡ same_path q p
apart_back p q less = sym (false_from_ne_true _ (λ same. irreflexive p (subst (λ (x : List ℕ). slice_cmp nat_cmp p x ≡ Less) (same_path-true q p same) less)))

-- ---- the paths are those of both

or_both_more : (a b c : Bool) → (a || (b || c)) ≡ ((a || b) || (a || c))
or_both_more true b c = refl
or_both_more false b c = refl

abbrev either : Entries → Entries → List ℕ → Bool
either xs ys q = listed (keys_of xs) q || listed (keys_of ys) q

merged_paths : (pairs : List Pair) (xs ys : Entries) → Merges pairs xs ys → (q : List ℕ) → listed (paths_of pairs) q ≡ either xs ys q
merged_paths [] xs ys m q = sym (ap (λ (l : Entries). either l ys q) m.0 ∙ ap (λ (l : Entries). listed (keys_of l) q) m.1)
merged_paths (pair ∷ rest) xs ys m q = elim m [
  | inl f ↦
      ap (λ (r : Pair). same_path r.path q || listed (paths_of rest) q) f.row
      ∙ ap (λ (b : Bool). same_path f.x.0 q || b) (merged_paths rest f.more ys f.rest q)
      ∙ sym (or_assoc (same_path f.x.0 q) (listed (keys_of f.more) q) (listed (keys_of ys) q))
      ∙ sym (ap (λ (l : Entries). either l ys q) f.is)
  | inr more ↦ elim more [
    | inl f ↦
        ap (λ (r : Pair). same_path r.path q || listed (paths_of rest) q) f.row
        ∙ ap (λ (b : Bool). same_path f.y.0 q || b) (merged_paths rest xs f.more f.rest q)
        ∙ or_swapped (same_path f.y.0 q) (listed (keys_of xs) q) (listed (keys_of f.more) q)
        ∙ sym (ap (λ (l : Entries). either xs l q) f.is)
    | inr f ↦
        ap (λ (r : Pair). same_path r.path q || listed (paths_of rest) q) f.row
        ∙ ap (λ (b : Bool). same_path f.x.0 q || b) (merged_paths rest f.olds f.news f.rest q)
        ∙ or_both_more (same_path f.x.0 q) (listed (keys_of f.olds) q) (listed (keys_of f.news) q)
        ∙ ap (λ (p : List ℕ). (same_path f.x.0 q || listed (keys_of f.olds) q) || (same_path p q || listed (keys_of f.news) q)) f.one
        ∙ sym (ap (λ (l : Entries). either l ys q) f.is_old ∙ ap (λ (l : Entries). either (f.x ∷ f.olds) l q) f.is_new)
  ]
]

-- ---- in order

merged_behind : (p : List ℕ) (pairs : List Pair) (xs ys : Entries) → Merges pairs xs ys → Before p (keys_of xs) → Before p (keys_of ys) → Before p (paths_of pairs)
merged_behind p [] xs ys m olds news = tt
merged_behind p (pair ∷ rest) xs ys m olds news = elim m [
  | inl f ↦
      let all : Before p (keys_of (f.x ∷ f.more)) = subst (λ (l : Entries). Before p (keys_of l)) f.is olds in
      (ap (λ (r : Pair). slice_cmp nat_cmp p r.path) f.row ∙ all.0, merged_behind p rest f.more ys f.rest all.1 news)
  | inr more ↦ elim more [
    | inl f ↦
        let all : Before p (keys_of (f.y ∷ f.more)) = subst (λ (l : Entries). Before p (keys_of l)) f.is news in
        (ap (λ (r : Pair). slice_cmp nat_cmp p r.path) f.row ∙ all.0, merged_behind p rest xs f.more f.rest olds all.1)
    | inr f ↦
        let old : Before p (keys_of (f.x ∷ f.olds)) = subst (λ (l : Entries). Before p (keys_of l)) f.is_old olds in
        let new : Before p (keys_of (f.y ∷ f.news)) = subst (λ (l : Entries). Before p (keys_of l)) f.is_new news in
        (ap (λ (r : Pair). slice_cmp nat_cmp p r.path) f.row ∙ old.0, merged_behind p rest f.olds f.news f.rest old.1 new.1)
  ]
]

abbrev InOrder : Entries → Type 0
InOrder xs = IsStrictlySortedBy (slice_cmp nat_cmp) (keys_of xs)

-- ---- with their entries

none_behind : (p : List ℕ) (ys : Entries) → Before p (keys_of ys) → None ≡ wanted_among ys p
none_behind p [] all = refl
none_behind p (y ∷ ys) all = none_behind p ys all.1 ∙ ap (λ (b : Bool). cond b (Some (wanted_of y.1)) (wanted_among ys p)) (apart_back p y.0 all.0)

at_front : (x : List ℕ × Entry) (xs : Entries) → Some (wanted_of x.1) ≡ wanted_among (x ∷ xs) x.0
at_front x xs = ap (λ (b : Bool). cond b (Some (wanted_of x.1)) (wanted_among xs x.0)) (sym (same_path-self x.0))

past_front : (x : List ℕ × Entry) (xs : Entries) (q : List ℕ) → slice_cmp nat_cmp x.0 q ≡ Less → wanted_among xs q ≡ wanted_among (x ∷ xs) q
past_front x xs q less = ap (λ (b : Bool). cond b (Some (wanted_of x.1)) (wanted_among xs q)) (apart x.0 q less)

with_old : (x : List ℕ × Entry) (xs ys : Entries) (pairs : List Pair) → Before x.0 (paths_of pairs) → AllByRecursion (HasBoth xs ys) pairs → AllByRecursion (HasBoth (x ∷ xs) ys) pairs
with_old x xs ys [] before all = tt
with_old x xs ys (pair ∷ pairs) before all = ((all.0.0 ∙ past_front x xs pair.path before.0, all.0.1), with_old x xs ys pairs before.1 all.1)

with_new : (y : List ℕ × Entry) (xs ys : Entries) (pairs : List Pair) → Before y.0 (paths_of pairs) → AllByRecursion (HasBoth xs ys) pairs → AllByRecursion (HasBoth xs (y ∷ ys)) pairs
with_new y xs ys [] before all = tt
with_new y xs ys (pair ∷ pairs) before all = ((all.0.0, all.0.1 ∙ past_front y ys pair.path before.0), with_new y xs ys pairs before.1 all.1)

-- pairs in order that have their entries
record IsMerged (xs ys : Entries) (pairs : List Pair) : Type 0 where
  order : IsStrictlySortedBy (slice_cmp nat_cmp) (paths_of pairs)
  entries : AllByRecursion (HasBoth xs ys) pairs

old_more : (x : List ℕ × Entry) (more ys : Entries) (rest : List Pair) → Merges rest more ys → InOrder (x ∷ more) → InOrder ys → Ahead x.0 ys → IsMerged more ys rest → IsMerged (x ∷ more) ys (old_alone x ∷ rest)
old_more x more ys rest m olds news ahead then =
    let own = sorted_rest x more olds in
    let far = before_all x.0 ys ahead news in
    let behind = merged_behind x.0 rest more ys m own.0 far in
    record {
      order = sorted_more x.0 (paths_of rest) behind then.order;
      entries = ((at_front x more, none_behind x.0 ys far), with_old x more ys rest behind then.entries);
    }

new_more : (y : List ℕ × Entry) (xs more : Entries) (rest : List Pair) → Merges rest xs more → InOrder xs → InOrder (y ∷ more) → Ahead y.0 xs → IsMerged xs more rest → IsMerged xs (y ∷ more) (new_alone y ∷ rest)
new_more y xs more rest m olds news ahead then =
    let own = sorted_rest y more news in
    let far = before_all y.0 xs ahead olds in
    let behind = merged_behind y.0 rest xs more m far own.0 in
    record {
      order = sorted_more y.0 (paths_of rest) behind then.order;
      entries = ((none_behind y.0 xs far, at_front y more), with_new y xs more rest behind then.entries);
    }

both_more : (x y : List ℕ × Entry) (olds news : Entries) (rest : List Pair) → Merges rest olds news → InOrder (x ∷ olds) → InOrder (y ∷ news) → x.0 ≡ y.0 → IsMerged olds news rest → IsMerged (x ∷ olds) (y ∷ news) (together x y ∷ rest)
both_more x y olds news rest m old_order new_order one then =
    let old = sorted_rest x olds old_order in
    let new = sorted_rest y news new_order in
    let far : Before x.0 (keys_of news) = subst (λ (p : List ℕ). Before p (keys_of news)) (sym one) new.0 in
    let behind = merged_behind x.0 rest olds news m old.0 far in
    let behind_new : Before y.0 (paths_of rest) = subst (λ (p : List ℕ). Before p (paths_of rest)) one behind in
    record {
      order = sorted_more x.0 (paths_of rest) behind then.order;
      entries = (
        (at_front x olds, at_front y news ∙ ap (λ (p : List ℕ). wanted_among (y ∷ news) p) (sym one)),
        with_old x olds (y ∷ news) rest behind (with_new y olds news rest behind_new then.entries),
      );
    }

is_merged : (pairs : List Pair) (xs ys : Entries) → Merges pairs xs ys → InOrder xs → InOrder ys → IsMerged xs ys pairs
is_merged [] xs ys m olds news = record { order = sorted_none; entries = tt }
is_merged (pair ∷ rest) xs ys m olds news = elim m [
  | inl f ↦
      let own : InOrder (f.x ∷ f.more) = subst InOrder f.is olds in
      let then = is_merged rest f.more ys f.rest (sorted_rest f.x f.more own).1 news in
      subst (λ (r : Pair). IsMerged xs ys (r ∷ rest)) (sym f.row)
      (subst (λ (l : Entries). IsMerged l ys (old_alone f.x ∷ rest)) (sym f.is) (old_more f.x f.more ys rest f.rest own news f.ahead then))
  | inr more ↦ elim more [
    | inl f ↦
        let own : InOrder (f.y ∷ f.more) = subst InOrder f.is news in
        let then = is_merged rest xs f.more f.rest olds (sorted_rest f.y f.more own).1 in
        subst (λ (r : Pair). IsMerged xs ys (r ∷ rest)) (sym f.row)
        (subst (λ (l : Entries). IsMerged xs l (new_alone f.y ∷ rest)) (sym f.is) (new_more f.y xs f.more rest f.rest olds own f.ahead then))
    | inr f ↦
        let old : InOrder (f.x ∷ f.olds) = subst InOrder f.is_old olds in
        let new : InOrder (f.y ∷ f.news) = subst InOrder f.is_new news in
        let then = is_merged rest f.olds f.news f.rest (sorted_rest f.x f.olds old).1 (sorted_rest f.y f.news new).1 in
        subst (λ (r : Pair). IsMerged xs ys (r ∷ rest)) (sym f.row)
        (subst (λ (l : Entries). IsMerged l ys (together f.x f.y ∷ rest)) (sym f.is_old)
        (subst (λ (l : Entries). IsMerged (f.x ∷ f.olds) l (together f.x f.y ∷ rest)) (sym f.is_new) (both_more f.x f.y f.olds f.news rest f.rest old new f.one then)))
  ]
]

pub are_rows : (pairs : List Pair) (xs ys : Entries) → Merges pairs xs ys → InOrder xs → InOrder ys → AreRows xs ys pairs
are_rows pairs xs ys m olds news =
    let merged = is_merged pairs xs ys m olds news in
    record {
      paths = λ q. merged_paths pairs xs ys m q ∙ sym (ap (λ (b : Bool). b || is_some (wanted_among ys q)) (listed_at xs q) ∙ ap (λ (b : Bool). listed (keys_of xs) q || b) (listed_at ys q));
      by_bytes = merged.order;
      entries = merged.entries;
    }

-- ---- the next of both

-- what stands at a place, and what is left from there on
abbrev At : {A : Type 0} → List A → ℕ → Option A → Type 0
At {A} xs i (Some x) = (drop i xs ≡ x ∷ drop (i + 1) xs) × (i < length xs)
At {A} xs i None = drop i xs ≡ []

at : {A : Type 0} (xs : List A) (i : ℕ) → At xs i (slice_get xs i)
at [] zero = refl
at [] (suc i) = refl
at (x ∷ xs) zero = (refl, omega arith)
at (x ∷ xs) (suc i) = go (slice_get xs i) (at xs i)
  where
    go : (o : Option _) → At xs i o → At (x ∷ xs) (suc i) o
    go (Some y) h = let next : suc (i + 1) ≡ suc i + 1 = omega arith in (h.0 ∙ ap (λ (k : ℕ). y ∷ drop k (x ∷ xs)) next, let l = h.1 in omega (arith, l))
    go None h = h

less_back : (p q : List ℕ) → slice_cmp nat_cmp p q ≡ Greater → slice_cmp nat_cmp q p ≡ Less
less_back p q more = go (slice_cmp nat_cmp q p) (sym more ∙ nat_list_cmp_total.antisymm p q)
  where
    go : (o : Ordering) → Greater ≡ ordering_reverse o → o ≡ Less
    go Less e = refl
    go Equal e = cc
    go Greater e = cc

abbrev Adds : Entries → Entries → ℕ → ℕ → List Pair → Pair → Type 0
Adds xs ys i j rest pair = Merges rest (drop (i + taken pair.was) xs) (drop (j + taken pair.wanted) ys) → Merges (pair ∷ rest) (drop i xs) (drop j ys)

-- one more pair in front of the rest
pub merged_more : (xs ys : Entries) (i j : ℕ) (pair : Pair) → first (slice_get xs i) (slice_get ys j) ≡ Some pair → (rest : List Pair)
    → Merges rest (drop (i + taken pair.was) xs) (drop (j + taken pair.wanted) ys) → Merges (pair ∷ rest) (drop i xs) (drop j ys)
merged_more xs ys i j pair is rest = go (slice_get xs i) (slice_get ys j) (at xs i) (at ys j) is
  where
    none_left : (k : ℕ) → k + 0 ≡ k
    none_left k = omega arith

    old : (x : List ℕ × Entry) → At xs i (Some x) → Ahead x.0 (drop j ys) → Adds xs ys i j rest (old_alone x)
    old x h ahead m = inl (record { x = x; more = drop (i + 1) xs; is = h.0; row = refl; ahead = ahead; rest = subst (λ (k : ℕ). Merges rest (drop (i + 1) xs) (drop k ys)) (none_left j) m })

    new : (y : List ℕ × Entry) → At ys j (Some y) → Ahead y.0 (drop i xs) → Adds xs ys i j rest (new_alone y)
    new y h ahead m = inr (inl (record { y = y; more = drop (j + 1) ys; is = h.0; row = refl; ahead = ahead; rest = subst (λ (k : ℕ). Merges rest (drop k xs) (drop (j + 1) ys)) (none_left i) m }))

    both : (x y : List ℕ × Entry) → At xs i (Some x) → At ys j (Some y) → x.0 ≡ y.0 → Adds xs ys i j rest (together x y)
    both x y h k one m = inr (inr (record { x = x; y = y; olds = drop (i + 1) xs; news = drop (j + 1) ys; is_old = h.0; is_new = k.0; row = refl; one = one; rest = m }))

    least : (x y : List ℕ × Entry) → At xs i (Some x) → At ys j (Some y) → (o : Ordering) → slice_cmp nat_cmp x.0 y.0 ≡ o → Adds xs ys i j rest (ranked o x y)
    least x y h k Less e = old x h (subst (Ahead x.0) (sym k.0) e)
    least x y h k Equal e = both x y h k (slice_cmp-IsAntisymmetric nat_cmp-IsAntisymmetric x.0 y.0 e)
    least x y h k Greater e = new y k (subst (Ahead y.0) (sym h.0) (less_back x.0 y.0 e))

    go : (o n : Option (List ℕ × Entry)) → At xs i o → At ys j n → first o n ≡ Some pair → Adds xs ys i j rest pair
    go (Some x) (Some y) h k e = subst (Adds xs ys i j rest) (same_Some (lesser x y) pair e) (least x y h k (slice_cmp nat_cmp x.0 y.0) refl)
    go (Some x) None h k e = subst (Adds xs ys i j rest) (same_Some (old_alone x) pair e) (old x h (subst (Ahead x.0) (sym k) tt))
    go None (Some y) h k e = subst (Adds xs ys i j rest) (same_Some (new_alone y) pair e) (new y k (subst (Ahead y.0) (sym h) tt))
    go None None h k e = cc

-- and none at the end
pub merged_end : (xs ys : Entries) (i j : ℕ) → first (slice_get xs i) (slice_get ys j) ≡ None → Merges [] (drop i xs) (drop j ys)
merged_end xs ys i j is = go (slice_get xs i) (slice_get ys j) (at xs i) (at ys j) is
  where
    go : (o n : Option (List ℕ × Entry)) → At xs i o → At ys j n → first o n ≡ None → Merges [] (drop i xs) (drop j ys)
    go (Some x) (Some y) h k e = cc
    go (Some x) None h k e = cc
    go None (Some y) h k e = cc
    go None None h k e = (h, k)

-- how far both places go
pub record Goes (xs ys : Entries) (i j : ℕ) (pair : Pair) : Type 0 where
  pub old : taken pair.was ≡ 0 ⊎ i < length xs
  pub new : taken pair.wanted ≡ 0 ⊎ j < length ys
  pub some : 0 < taken pair.was + taken pair.wanted
  pub old_one : taken pair.was ≤ 1
  pub new_one : taken pair.wanted ≤ 1

pub goes : (xs ys : Entries) (i j : ℕ) (pair : Pair) → first (slice_get xs i) (slice_get ys j) ≡ Some pair → Goes xs ys i j pair
goes xs ys i j pair is = go (slice_get xs i) (slice_get ys j) (at xs i) (at ys j) is
  where
    old : (x : List ℕ × Entry) → At xs i (Some x) → Goes xs ys i j (old_alone x)
    old x h = record { old = inr h.1; new = inl refl; some = omega arith; old_one = omega arith; new_one = omega arith }

    new : (y : List ℕ × Entry) → At ys j (Some y) → Goes xs ys i j (new_alone y)
    new y k = record { old = inl refl; new = inr k.1; some = omega arith; old_one = omega arith; new_one = omega arith }

    least : (x y : List ℕ × Entry) → At xs i (Some x) → At ys j (Some y) → (o : Ordering) → Goes xs ys i j (ranked o x y)
    least x y h k Less = old x h
    least x y h k Equal = record { old = inr h.1; new = inr k.1; some = omega arith; old_one = omega arith; new_one = omega arith }
    least x y h k Greater = new y k

    go : (o n : Option (List ℕ × Entry)) → At xs i o → At ys j n → first o n ≡ Some pair → Goes xs ys i j pair
    go (Some x) (Some y) h k e = subst (Goes xs ys i j) (same_Some (lesser x y) pair e) (least x y h k (slice_cmp nat_cmp x.0 y.0))
    go (Some x) None h k e = subst (Goes xs ys i j) (same_Some (old_alone x) pair e) (old x h)
    go None (Some y) h k e = subst (Goes xs ys i j) (same_Some (new_alone y) pair e) (new y k)
    go None None h k e = cc

-- ---- as the code comes to it

at_is : {A B : Type 0} (f : A → B) (xs : List B) (i : ℕ) (o : Option A) → IfNone o (length xs ≤ i) → IfSome o (λ (x : A). slice_get xs i ≡ Some (f x)) → option_map f o ≡ slice_get xs i
at_is f xs i (Some x) none some = sym some
at_is f xs i None none some = sym (slice_get_past xs i none)

pub next_pair : {A : Type 0} (f : A → List ℕ × Entry) (xs ys : Entries) (i j : ℕ) (o n : Option A) (found : Option Pair)
    → IfNone o (length xs ≤ i) → IfSome o (λ (x : A). slice_get xs i ≡ Some (f x)) → IfNone n (length ys ≤ j) → IfSome n (λ (y : A). slice_get ys j ≡ Some (f y))
    → found ≡ first (option_map f o) (option_map f n) → first (slice_get xs i) (slice_get ys j) ≡ found
next_pair f xs ys i j o n found no_old old no_new new is =
    sym (is ∙ ap (λ (x : Option (List ℕ × Entry)). first x (option_map f n)) (at_is f xs i o no_old old) ∙ ap (first (slice_get xs i)) (at_is f ys j n no_new new))

pub taken_map : {A B : Type 0} (f : A → B) (o : Option A) → taken (option_map f o) ≡ taken o
taken_map f (Some x) = refl
taken_map f None = refl

pub stays_within : (i k n : ℕ) → k ≤ 1 → k ≡ 0 ⊎ i < n → i ≤ n → i + k ≤ n
stays_within i k n one some within = elim some [
  | inl none ↦ omega (arith, none, within)
  | inr less ↦ omega (arith, one, less)
]

-- the rows so far, with one more in front of the rest
pub row_added : (xs ys : Entries) (i j k l : ℕ) (front added rest : List Pair) (pair : Pair) → first (slice_get xs i) (slice_get ys j) ≡ Some pair → taken pair.was ≡ k → taken pair.wanted ≡ l
    → added ≡ front ++ pair ∷ [] → ((then : List Pair) → Merges then (drop i xs) (drop j ys) → Merges (front ++ then) xs ys)
    → Merges rest (drop (i + k) xs) (drop (j + l) ys) → Merges (added ++ rest) xs ys
row_added xs ys i j k l front added rest pair next olds news row so_far m =
    let old : Merges rest (drop (i + taken pair.was) xs) (drop (j + l) ys) = subst (λ (n : ℕ). Merges rest (drop (i + n) xs) (drop (j + l) ys)) (sym olds) m in
    let both : Merges rest (drop (i + taken pair.was) xs) (drop (j + taken pair.wanted) ys) = subst (λ (n : ℕ). Merges rest (drop (i + taken pair.was) xs) (drop (j + n) ys)) (sym news) old in
    subst (λ (all : List Pair). Merges all xs ys) (sym (ap (λ (l : List Pair). l ++ rest) row ∙ append_assoc front (pair ∷ []) rest))
    (so_far (pair ∷ rest) (merged_more xs ys i j pair next rest both))

pub rows_ended : (xs ys : Entries) (i j : ℕ) (front : List Pair) → first (slice_get xs i) (slice_get ys j) ≡ None → InOrder xs → InOrder ys
    → ((then : List Pair) → Merges then (drop i xs) (drop j ys) → Merges (front ++ then) xs ys) → AreRows xs ys front
rows_ended xs ys i j front next olds news so_far =
    are_rows front xs ys (subst (λ (all : List Pair). Merges all xs ys) (append-nil front) (so_far [] (merged_end xs ys i j next))) olds news
