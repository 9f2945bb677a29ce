-- How paths stand to one another, and the first of things.
use Rattle.std.proofs.Common.{◌≡◌, ◌⊎◌, inl, inr, ℕ, zero, suc, Bool, true, false, not, ◌&&◌, ◌||◌, ◌==◌, List, [], ◌∷◌, Some, take, refl, sym, ◌∙◌, ap, subst, arith}
use Rattle.std.specs.Prelude.{nat_lt, slice_get, slice_index_or}
use Rattle.std.specs.declared.cmp.Ordering.{Ordering}
use Rattle.std.specs.declared.cmp.Ordering.TheVariants.{Equal, Greater, Less}
use Rattle.std.specs.Ordering.{nat_cmp, ordering_reverse, ordering_then}
use Rattle.std.specs.Cmp.{nat_cmp_is}
use Rattle.std.proofs.lemmas.Cmp.{nat_list_cmp_total}
use Rattle.std.specs.Cmp.Lexicographic.{slice_cmp}
use Rattle.std.specs.List.{AllByRecursion}
use Rattle.std.specs.List.Sorted.{IsStrictlySortedBy}
use Rattle.std.proofs.lemmas.Bool.{and_from, and_parts, eq-eqb, eqb-true, ltb-false, ltb-true, or_cases, or_from, or_left, or_right}
use Rattle.ips_text.specs.Ancestry.{same_path}
use Rattle.ips_text.proofs.Ancestry.{same_path-self, same_path-true}
use Rattle.ips_outside.specs.Image.{Image}
use Rattle.ips_after.specs.Lists.{listed}
use Rattle.ips_after.specs.Request.{Request}
use Rattle.ips_after.specs.Salvage.{lesser, salvaged}
use Rattle.ips_after.proofs.Fits.{at_listed}
use Rattle.ips_after.proofs.Names.{lesser_none}
use Rattle.ips_found.specs.Found.{AreThings, IsThing, thing_paths}
use Rattle.ips_found.specs.declared.found.Thing.{Thing}
use Rattle.ips_movable.proofs.Moving.{fixed_seen}
use Rattle.ips_movable.specs.Movable.{CanMove, IsFirstFixed, cannot_move, is_fixed}

-- how two paths stand to one another in the order of bytes
pub data Rank (p q : List ℕ) : Ordering → Type 0 where
  Below : lesser p q ≡ true → Rank p q Less
  Same : p ≡ q → Rank p q Equal
  Above : lesser q p ≡ true → Rank p q Greater

pub rank : (p q : List ℕ) → Rank p q (slice_cmp nat_cmp p q)
rank [] [] = Same refl
rank [] (b ∷ q) = Below refl
rank (a ∷ p) [] = Above refl
rank (a ∷ p) (b ∷ q) = go (nat_lt a b) refl (nat_lt b a) refl (rank p q)
  where
    step : a ≡ b → (o : Ordering) → Rank p q o → Rank (a ∷ p) (b ∷ q) o
    step one Less (Below h) = Below (or_right (nat_lt a b) _ (and_from _ _ (eq-eqb a b one) h))
    step one Equal (Same e) = Same (ap (λ (n : ℕ). n ∷ p) one ∙ ap (λ (l : List ℕ). b ∷ l) e)
    step one Greater (Above h) = Above (or_right (nat_lt b a) _ (and_from _ _ (eq-eqb b a (sym one)) h))

    go : (x : Bool) → nat_lt a b ≡ x → (y : Bool) → nat_lt b a ≡ y → Rank p q (slice_cmp nat_cmp p q) → Rank (a ∷ p) (b ∷ q) (ordering_then (nat_cmp a b) (slice_cmp nat_cmp p q))
    go true l y e rec = subst (λ (o : Ordering). Rank (a ∷ p) (b ∷ q) (ordering_then o (slice_cmp nat_cmp p q))) (nat_cmp_is a b Less (ltb-true a b l)) (Below (or_left _ _ l))
    go false l true g rec = subst (λ (o : Ordering). Rank (a ∷ p) (b ∷ q) (ordering_then o (slice_cmp nat_cmp p q))) (nat_cmp_is a b Greater (ltb-true b a g)) (Above (or_left _ _ g))
    go false l false g rec =
        let u = ltb-false a b l in
        let v = ltb-false b a g in
        let one : a ≡ b = omega (arith, u, v) in
        subst (λ (o : Ordering). Rank (a ∷ p) (b ∷ q) (ordering_then o (slice_cmp nat_cmp p q))) (nat_cmp_is a b Equal one) (step one (slice_cmp nat_cmp p q) rec)

-- what comes behind a path is greater
behind : (p q : List ℕ) → slice_cmp nat_cmp p q ≡ Less → lesser p q ≡ true
behind p q l = go (slice_cmp nat_cmp p q) (rank p q) l
  where
    go : (o : Ordering) → Rank p q o → o ≡ Less → lesser p q ≡ true
    go Less (Below h) e = h
    go Equal (Same s) e = cc
    go Greater (Above h) e = cc

-- and a path that is less comes before
pub less_cmp : (p q : List ℕ) → lesser p q ≡ true → slice_cmp nat_cmp p q ≡ Less
less_cmp [] [] h = cc
less_cmp [] (b ∷ q) h = refl
less_cmp (a ∷ p) [] h = cc
less_cmp (a ∷ p) (b ∷ q) h = go (or_cases (nat_lt a b) ((a == b) && lesser p q) h) (less_cmp p q)
  where
    go : (nat_lt a b ≡ true) ⊎ (((a == b) && lesser p q) ≡ true) → (lesser p q ≡ true → slice_cmp nat_cmp p q ≡ Less) → ordering_then (nat_cmp a b) (slice_cmp nat_cmp p q) ≡ Less
    go (inl l) rec = ap (λ (o : Ordering). ordering_then o (slice_cmp nat_cmp p q)) (sym (nat_cmp_is a b Less (ltb-true a b l)))
    go (inr r) rec =
        let parts = and_parts (a == b) (lesser p q) r in
        ap (λ (o : Ordering). ordering_then o (slice_cmp nat_cmp p q)) (sym (nat_cmp_is a b Equal (eqb-true a b parts.0))) ∙ rec parts.1

-- what is less doesn't come behind
not_both : (p q : List ℕ) → lesser q p ≡ true → slice_cmp nat_cmp p q ≡ Less → ⊥
not_both p q less l = let turned = nat_list_cmp_total.antisymm p q ∙ ap ordering_reverse (less_cmp q p less) in let bad : Less ≡ Greater = sym l ∙ turned in cc

-- what is less than the first of two is less than the second
pub less_over : (q p z : List ℕ) → lesser q p ≡ true → slice_cmp nat_cmp p z ≡ Less → lesser q z ≡ true
less_over q p z less l = behind q z (nat_list_cmp_total.trans q p z (less_cmp q p less) l)

-- a thing of a list, at a path
record ThingAt (P : Thing → Type 0) (q : List ℕ) : Type 0 where
  thing : Thing
  path : thing.path.bytes ≡ q
  has : P thing

thing_at : (P : Thing → Type 0) (things : List Thing) (q : List ℕ) → AllByRecursion P things → listed (thing_paths things) q ≡ true → ThingAt P q
thing_at P [] q all h = cc
thing_at P (x ∷ things) q all h = go (or_cases (same_path x.path.bytes q) (listed (thing_paths things) q) h) (thing_at P things q all.1)
  where
    go : (same_path x.path.bytes q ≡ true) ⊎ (listed (thing_paths things) q ≡ true) → (listed (thing_paths things) q ≡ true → ThingAt P q) → ThingAt P q
    go (inl s) rec = record { thing = x; path = same_path-true x.path.bytes q s; has = all.0 }
    go (inr more) rec = rec more

-- both of things
both : (P Q : Thing → Type 0) (things : List Thing) → AllByRecursion P things → AllByRecursion Q things → AllByRecursion (λ x. P x × Q x) things
both P Q [] p q = tt
both P Q (x ∷ things) p q = ((p.0, q.0), both P Q things p.1 q.1)

-- what is less than a thing's path is that of one before it
front : (things : List Thing) (k : ℕ) (x : Thing) (q : List ℕ) → IsStrictlySortedBy (slice_cmp nat_cmp) (thing_paths things) → slice_get things k ≡ Some x → lesser q x.path.bytes ≡ true → listed (thing_paths things) q ≡ true
    → listed (thing_paths (take k things)) q ≡ true
unfolding IsStrictlySortedBy
front [] k x q order at less there = cc
front (y ∷ things) zero x q order at less there = absurd (go (or_cases (same_path y.path.bytes q) (listed (thing_paths things) q) there))
  where
    same : (a b : Thing) → Some a ≡ Some b → a ≡ b
    same a b e = cc

    below : lesser q y.path.bytes ≡ true
    below = ap (λ (z : Thing). lesser q z.path.bytes) (same y x at) ∙ less

    go : (same_path y.path.bytes q ≡ true) ⊎ (listed (thing_paths things) q ≡ true) → ⊥
    go (inl s) = lesser_none q (ap (lesser q) (sym (same_path-true y.path.bytes q s)) ∙ below)
    go (inr more) = not_both y.path.bytes q below (at_listed (λ z. slice_cmp nat_cmp y.path.bytes z ≡ Less) (thing_paths things) q order.0 more)
front (y ∷ things) (suc k) x q order at less there = go (or_cases (same_path y.path.bytes q) (listed (thing_paths things) q) there) (front things k x q order.1 at less)
  where
    go : (same_path y.path.bytes q ≡ true) ⊎ (listed (thing_paths things) q ≡ true) → (listed (thing_paths things) q ≡ true → listed (thing_paths (take k things)) q ≡ true) → listed (thing_paths (y ∷ take k things)) q ≡ true
    go (inl s) rec = or_left _ _ s
    go (inr more) rec = or_right (same_path y.path.bytes q) _ (rec more)

-- of things that can be moved none is fixed
moves_of : (root : List ℕ) (x : Thing) → CanMove root x → is_fixed root x ≡ false
moves_of root x c = or_from _ _ (ap not c.made) c.short

-- what is salvaged at the path can't be moved
abbrev pub fixed_test : Request → Image → List ℕ → List ℕ → Bool
fixed_test r t root p = salvaged r t p && cannot_move t root p

-- the thing at a place
pub index_at : (things : List Thing) (i : ℕ) (d x : Thing) → slice_get things i ≡ Some x → slice_index_or things i d ≡ x
index_at [] i d x at = cc
index_at (y ∷ things) zero d x at = same y x at
  where
    same : (a b : Thing) → Some a ≡ Some b → a ≡ b
    same a b e = cc
index_at (y ∷ things) (suc i) d x at = index_at things i d x at

module _ (r : Request) (t : Image) (root : List ℕ) (things : List Thing) (seen : AreThings t things) (are : (q : List ℕ) → listed (thing_paths things) q ≡ salvaged r t q) where
  abbrev test : List ℕ → Bool
  test p = salvaged r t p && cannot_move t root p

  -- a listed path among things that can be moved fails the test
  can_move : (some : List Thing) (q : List ℕ) → AllByRecursion (IsThing t) some → AllByRecursion (CanMove root) some → listed (thing_paths some) q ≡ true → cannot_move t root q ≡ false
  can_move some q at moves there =
      let x = thing_at (λ y. IsThing t y × CanMove root y) some q (both (IsThing t) (CanMove root) some at moves) there in
      ap (cannot_move t root) (sym x.path) ∙ sym (fixed_seen t root x.thing x.has.0) ∙ moves_of root x.thing x.has.1

  unless : (b c : Bool) → (b ≡ true → c ≡ false) → (b && c) ≡ false
  unless true c h = h refl
  unless false c h = refl

  pub none_fixed : AllByRecursion (CanMove root) things → (q : List ℕ) → test q ≡ false
  none_fixed moves q = unless (salvaged r t q) (cannot_move t root q) (λ s. can_move things q seen moves (are q ∙ s))

  taken : (some : List Thing) (i : ℕ) → AllByRecursion (IsThing t) some → AllByRecursion (IsThing t) (take i some)
  taken [] zero all = tt
  taken [] (suc i) all = tt
  taken (x ∷ some) zero all = tt
  taken (x ∷ some) (suc i) all = (all.0, taken some i all.1)

  place : (some : List Thing) (i : ℕ) (x : Thing) → slice_get some i ≡ Some x → AllByRecursion (IsThing t) some → IsThing t x × (listed (thing_paths some) x.path.bytes ≡ true)
  place [] i x at all = cc
  place (y ∷ some) zero x at all = let one : y ≡ x = same y x at in subst (λ (z : Thing). IsThing t z × (listed (thing_paths (y ∷ some)) z.path.bytes ≡ true)) one (all.0, or_left _ _ (same_path-self y.path.bytes))
    where
      same : (a b : Thing) → Some a ≡ Some b → a ≡ b
      same a b e = cc
  place (y ∷ some) (suc i) x at all = let rest = place some i x at all.1 in (rest.0, or_right (same_path y.path.bytes x.path.bytes) _ rest.1)

  pub first_fixed_at : IsStrictlySortedBy (slice_cmp nat_cmp) (thing_paths things) → (i : ℕ) (f : IsFirstFixed root things i) → (test f.thing.path.bytes ≡ true) × ((q : List ℕ) → lesser q f.thing.path.bytes ≡ true → test q ≡ false)
  first_fixed_at order i f =
      let here = place things i f.thing f.there seen in (
        and_from _ _ (sym (are f.thing.path.bytes) ∙ here.1) (sym (fixed_seen t root f.thing here.0) ∙ f.fixed),
        λ q less. unless (salvaged r t q) (cannot_move t root q) (λ s. can_move (take i things) q (taken things i seen) f.before (front things i f.thing q order f.there less (are q ∙ s))),
      )

-- ---- the first of two paths

-- the test holds at the path and at none before it
abbrev pub First : (List ℕ → Bool) → List ℕ → Type 0
First f p = (f p ≡ true) × ((x : List ℕ) → lesser x p ≡ true → f x ≡ false)

-- what is before the first is before the second
ahead : (p q : List ℕ) (o : Ordering) → slice_cmp nat_cmp p q ≡ o → Rank p q o → (o ≡ Greater → ⊥) → (x : List ℕ) → lesser x p ≡ true → lesser x q ≡ true
ahead p q Less is (Below h) off x less = less_over x p q less is
ahead p q Equal is (Same e) off x less = ap (lesser x) (sym e) ∙ less
ahead p q Greater is (Above h) off x less = absurd (off refl)

pub first_one : (f g : List ℕ → Bool) (p q : List ℕ) → First f p → First g q → (slice_cmp nat_cmp p q ≡ Greater → ⊥) → First (λ x. f x || g x) p
first_one f g p q a b off = (or_left _ _ a.0, λ x less. or_from _ _ (a.1 x less) (b.1 x (ahead p q (slice_cmp nat_cmp p q) refl (rank p q) off x less)))

pub first_other : (f g : List ℕ → Bool) (p q : List ℕ) → First f p → First g q → slice_cmp nat_cmp p q ≡ Greater → First (λ x. f x || g x) q
first_other f g p q a b is =
    let turned : slice_cmp nat_cmp q p ≡ Less = nat_list_cmp_total.antisymm q p ∙ ap ordering_reverse is in
    (or_right (f q) _ b.0, λ x less. or_from _ _ (a.1 x (less_over x q p less turned)) (b.1 x less))
