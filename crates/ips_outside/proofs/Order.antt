-- The order of bytes, and what stands together in it.
use Rattle.std.proofs.Common.{◌≡◌, ◌⊎◌, inl, inr, ⊎_elim, ℕ, ◌<◌, Bool, true, false, cond, not, ◌&&◌, ◌==◌, nat_lt, List, [], ◌∷◌, Option, Some, None, IsSome, IsNone, IfSome, is_some, refl, sym, ◌∙◌, ap, subst, arith}
use Rattle.std.specs.List.{slice_get}
use Rattle.std.proofs.lemmas.Bool.{and_parts, and_from, eqb-true, eq-eqb, ltb-true, false_from_ne_true}
use Rattle.std.specs.BTreeMap.{BTreeMap, get}
use Rattle.std.specs.BTreeMap.Range.{IsLeBy, IsInRange, IsEntryInRange, IsRangeOf}
use Rattle.std.specs.Ordering.{nat_cmp, is_gt, ordering_then}
use Rattle.std.specs.Cmp.{nat_cmp_is}
use Rattle.std.specs.Cmp.Lexicographic.{slice_cmp}
use Rattle.std.specs.declared.cmp.Ordering.{Ordering}
use Rattle.std.specs.declared.cmp.Ordering.TheVariants.{Less, Equal, Greater}
use Rattle.std.specs.declared.ops.Bound.TheVariants.{Included, Unbounded}
use Rattle.std.specs.declared.alloc.Global.{Global}
use Rattle.std.specs.declared.vec.Vec.{Vec}
use Rattle.std.proofs.lemmas.Cmp.{nat_list_cmp_total, tied_itself, upto}
use Rattle.ips_text.specs.Ancestry.{same_path, covers, is_below}
use Rattle.ips_text.proofs.Ancestry.{same_path-true, uncovered}
use Rattle.ips_outside.specs.Table.{kind_at}
use Rattle.ips_outside.specs.Order.{comes_after, front_below, IsFirstFrom, IsNoneFrom, IsNextBelow, IsNoneBelow}
use Rattle.ips_outside.specs.declared.table.Kind.{Kind}
use Rattle.ips_outside.proofs.Maps.{kind_at-get}

-- ---- bytes

pub then_after : (a b : ℕ) (o : Ordering) → is_gt (ordering_then (nat_cmp a b) o) ≡ false → (a < b) ⊎ ((a ≡ b) × (is_gt o ≡ false))
then_after a b o h = go (nat_lt a b) refl (a == b) refl h
  where
    go : (l : Bool) → nat_lt a b ≡ l → (e : Bool) → (a == b) ≡ e → is_gt (ordering_then (cond l Less (cond e Equal Greater)) o) ≡ false → (a < b) ⊎ ((a ≡ b) × (is_gt o ≡ false))
    go true l e eq h = inl (ltb-true a b l)
    go false l true eq h = inr (eqb-true a b eq, h)
    go false l false eq h = cc

pub after_itself : (p : List ℕ) → comes_after p p ≡ false
after_itself p = ap is_gt (tied_itself nat_list_cmp_total p)

pub after_trans : (p q r : List ℕ) → comes_after p q ≡ false → comes_after q r ≡ false → comes_after p r ≡ false
after_trans p q r a b = upto nat_list_cmp_total p q r a b

pub same_head : (a : ℕ) (p q : List ℕ) → comes_after (a ∷ p) (a ∷ q) ≡ comes_after p q
same_head a p q = ap (λ (o : Ordering). is_gt (ordering_then o (slice_cmp nat_cmp p q))) (sym (nat_cmp_is a a Equal refl))

-- a path stands before all that is below it
pub front_after : (p : List ℕ) → comes_after (front_below p) p ≡ true
front_after [] = refl
front_after (a ∷ p) = same_head a (front_below p) p ∙ front_after p

-- and all below it stand from its front on
pub below_from : (p q : List ℕ) → is_below p q ≡ true → comes_after (front_below p) q ≡ false
below_from p q h = go p q (and_parts (covers p q) (not (same_path p q)) h).0 (and_parts (covers p q) (not (same_path p q)) h).1
  where
    go : (p q : List ℕ) → covers p q ≡ true → not (same_path p q) ≡ true → comes_after (front_below p) q ≡ false
    go [] [] c s = cc
    go [] (b ∷ q) c s = subst (λ (x : ℕ). comes_after (47 ∷ []) (x ∷ q) ≡ false) (sym (eqb-true b 47 c)) (same_head 47 [] q ∙ least q)
      where
        least : (q : List ℕ) → comes_after [] q ≡ false
        least [] = refl
        least (c ∷ q) = refl
    go (a ∷ p) [] c s = cc
    go (a ∷ p) (b ∷ q) c s =
        let parts = and_parts (a == b) (covers p q) c in
        let one = eqb-true a b parts.0 in
        let apart : not (same_path p q) ≡ true = ap (λ (x : Bool). not (x && same_path p q)) (sym parts.0) ∙ s in
        subst (λ (x : ℕ). comes_after (a ∷ front_below p) (x ∷ q) ≡ false) one (same_head a (front_below p) q ∙ go p q parts.1 apart)

-- what stands between the front and something below the path is below it too
pub between_below : (p k q : List ℕ) → comes_after (front_below p) k ≡ false → comes_after k q ≡ false → is_below p q ≡ true → covers p k ≡ true
between_below p k q f l h = go p k q f l (and_parts (covers p q) (not (same_path p q)) h).0 (and_parts (covers p q) (not (same_path p q)) h).1
  where
    go : (p k q : List ℕ) → comes_after (front_below p) k ≡ false → comes_after k q ≡ false → covers p q ≡ true → not (same_path p q) ≡ true → covers p k ≡ true
    go [] k [] f l c s = cc
    go [] [] (b ∷ q) f l c s = cc
    go [] (x ∷ k) (b ∷ q) f l c s =
        let up = then_after 47 x _ f in
        let down = then_after x b _ l in
        let is : b ≡ 47 = eqb-true b 47 c in
        eq-eqb x 47 (⊎_elim (λ lt. ⊎_elim (λ lt'. absurd (omega (arith, is))) (λ eq'. absurd (omega (arith, eq'.0, is))) down) (λ eq. sym eq.0) up)
    go (a ∷ p) k [] f l c s = cc
    go (a ∷ p) [] (b ∷ q) f l c s = cc
    go (a ∷ p) (x ∷ k) (b ∷ q) f l c s =
        let parts = and_parts (a == b) (covers p q) c in
        let one : a ≡ b = eqb-true a b parts.0 in
        let apart : not (same_path p q) ≡ true = ap (λ (x : Bool). not (x && same_path p q)) (sym parts.0) ∙ s in
        let up = then_after a x _ f in
        let down = then_after x b _ l in
        ⊎_elim (λ lt. absurd (⊎_elim (λ lt'. omega (arith, one)) (λ eq'. omega (arith, eq'.0, one)) down))
        (λ eq. ⊎_elim (λ lt'. absurd (omega (arith, eq.0, one))) (λ eq'. and_from (a == x) (covers p k) (eq-eqb a x eq.0) (go p k q eq.1 eq'.1 parts.1 apart)) down) up

-- ---- keys

pub none_is : {A : Type 0} (x : Option A) → (is_some x ≡ true → ⊥) → IsNone x
none_is (Some a) h = absurd (h refl)
none_is None h = refl

-- a path of the table is the bytes of a key
record Key (q : List ℕ) : Type 0 where
  pub key : Vec ℕ Global
  pub is : key.items ≡ q

key_of : (entries : List (Vec ℕ Global × Kind)) (q : List ℕ) → is_some (kind_at entries q) ≡ true → Key q
key_of [] q h = cc
key_of (e ∷ entries) q h = go (same_path e.0.items q) refl h (key_of entries q)
  where
    go : (s : Bool) → same_path e.0.items q ≡ s → is_some (cond s (Some e.1) (kind_at entries q)) ≡ true → (is_some (kind_at entries q) ≡ true → Key q) → Key q
    go true s h rest = record { key = e.0; is = same_path-true e.0.items q s }
    go false s h rest = rest h

abbrev byte_cmp : Vec ℕ Global → Vec ℕ Global → Ordering
byte_cmp x y = slice_cmp nat_cmp x.items y.items

module _ (m : BTreeMap (Vec ℕ Global) Kind) (from : Vec ℕ Global) (r : List (Vec ℕ Global × Kind)) (ranges : IsRangeOf byte_cmp (Included from) Unbounded m r) where
  got : (k : Vec ℕ Global) (q : List ℕ) → k.items ≡ q → get byte_cmp m k ≡ kind_at m.entries q
  got k q is = kind_at-get m.entries k.items ∙ ap (kind_at m.entries) is

  pub first_found : (k : Vec ℕ Global) (v : Kind) (t : List (Vec ℕ Global × Kind)) → r ≡ (k, v) ∷ t → IsFirstFrom m.entries from.items k.items
  first_found k v t is =
      let entry : IsEntryInRange byte_cmp (Included from) Unbounded m (k, v) = subst (λ (es : List (Vec ℕ Global × Kind)). IfSome (slice_get es 0) (IsEntryInRange byte_cmp (Included from) Unbounded m)) is ranges.1 in
      record {
        stands = ap is_some (sym (got k k.items refl) ∙ entry.1);
        late = entry.0.0;
        least = λ q some late.
            let key = key_of m.entries q some in
            let there : IsSome (get byte_cmp m key.key) = ap is_some (got key.key q key.is) ∙ some in
            let in_range : IsInRange byte_cmp (Included from) Unbounded key.key = (subst (λ (x : List ℕ). comes_after from.items x ≡ false) (sym key.is) late, tt) in
            let least = subst (λ (es : List (Vec ℕ Global × Kind)). IfSome (slice_get es 0) (λ e. IsLeBy byte_cmp e.0 key.key)) is (ranges.2 key.key in_range there) in
            subst (λ (x : List ℕ). comes_after k.items x ≡ false) key.is least;
      }

  pub none_found : r ≡ [] → IsNoneFrom m.entries from.items
  none_found is = λ q late. none_is (kind_at m.entries q) (λ some.
      let key = key_of m.entries q some in
      let in_range : IsInRange byte_cmp (Included from) Unbounded key.key = (subst (λ (x : List ℕ). comes_after from.items x ≡ false) (sym key.is) late, tt) in
      let none : get byte_cmp m key.key ≡ None = ranges.5 is key.key in_range in
      let bad : is_some (kind_at m.entries q) ≡ false = ap is_some (sym (got key.key q key.is) ∙ none) in
      absurd (cc))

module _ (paths : List (Vec ℕ Global × Kind)) (p from : List ℕ) (begun : comes_after (front_below p) from ≡ false) where
  pub next_found : (first : List ℕ) → IsFirstFrom paths from first → covers p first ≡ true → IsNextBelow paths p from first
  next_found first is c = record {
    first = is;
    below = and_from (covers p first) (not (same_path p first)) c (ap not (false_from_ne_true (same_path p first) (λ same.
        let one : p ≡ first = same_path-true p first same in
        let late : comes_after (front_below p) p ≡ false = subst (λ (x : List ℕ). comes_after (front_below p) x ≡ false) (sym one) (after_trans (front_below p) from first begun is.late) in
        let early = front_after p in
        absurd (cc))));
  }

  pub none_below : (first : List ℕ) → IsFirstFrom paths from first → covers p first ≡ false → IsNoneBelow paths p from
  none_below first is c = λ q below late. none_is (kind_at paths q) (λ some.
      let inside = between_below p first q (after_trans (front_below p) from first begun is.late) (is.least q some late) below in
      absurd (cc))

-- ---- one path after another, taken away

module _ (old new : List (Vec ℕ Global × Kind)) (p from next : List ℕ) (is : IsNextBelow old p from next)
    (taken : (q : List ℕ) → kind_at new q ≡ cond (same_path next q) None (kind_at old q)) where
  pub taken_stands : (q : List ℕ) → is_some (kind_at new q) ≡ true → is_some (kind_at old q) ≡ true
  taken_stands q some = go (same_path next q) (ap is_some (sym (taken q)) ∙ some)
    where
      go : (s : Bool) → is_some (cond s None (kind_at old q)) ≡ true → is_some (kind_at old q) ≡ true
      go true h = cc
      go false h = h

  pub taken_others : (q : List ℕ) → is_below p q ≡ false → kind_at new q ≡ kind_at old q
  taken_others q off = go (same_path next q) refl
    where
      go : (s : Bool) → same_path next q ≡ s → kind_at new q ≡ kind_at old q
      go true s = let below : is_below p q ≡ true = ap (is_below p) (sym (same_path-true next q s)) ∙ is.below in absurd (cc)
      go false s = taken q ∙ ap (λ (b : Bool). cond b None (kind_at old q)) s

  pub taken_left : ((q : List ℕ) → is_below p q ≡ true → is_some (kind_at old q) ≡ true → comes_after from q ≡ false) → (q : List ℕ) → is_below p q ≡ true → is_some (kind_at new q) ≡ true → comes_after next q ≡ false
  taken_left left q below some = let stood = taken_stands q some in is.first.least q stood (left q below stood)

-- nothing is left below the path, and then the path itself goes
pub all_taken : (first old new : List (Vec ℕ Global × Kind)) (p from : List ℕ) → ((q : List ℕ) → is_below p q ≡ false → kind_at old q ≡ kind_at first q) → ((q : List ℕ) → is_below p q ≡ true → is_some (kind_at old q) ≡ true → comes_after from q ≡ false)
    → IsNoneBelow old p from → ((q : List ℕ) → kind_at new q ≡ cond (same_path p q) None (kind_at old q)) → (q : List ℕ) → kind_at new q ≡ cond (covers p q) None (kind_at first q)
all_taken first old new p from others left none taken q = go (same_path p q) refl (covers p q) refl
  where
    go : (s : Bool) → same_path p q ≡ s → (c : Bool) → covers p q ≡ c → kind_at new q ≡ cond c None (kind_at first q)
    go true s true c = taken q ∙ ap (λ (b : Bool). cond b None (kind_at old q)) s
    go true s false c = let bad = uncovered p q c in absurd (cc)
    go false s true c =
        let below : is_below p q ≡ true = and_from (covers p q) (not (same_path p q)) c (ap not s) in
        taken q ∙ ap (λ (b : Bool). cond b None (kind_at old q)) s ∙ none_at (kind_at old q) (none_is (kind_at old q) (λ some. let gone = none q below (left q below some) in absurd (cc)))
      where
        none_at : (k : Option Kind) → IsNone k → k ≡ None
        none_at (Some k) h = cc
        none_at None h = refl
    go false s false c = taken q ∙ ap (λ (b : Bool). cond b None (kind_at old q)) s ∙ others q (ap (λ (b : Bool). b && not (same_path p q)) c)
