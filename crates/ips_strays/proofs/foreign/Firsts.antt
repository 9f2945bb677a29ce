-- The first of things by their paths.
use Rattle.std.proofs.Common.{◌≡◌, ◌⊎◌, inl, inr, ℕ, zero, suc, Bool, true, false, ◌&&◌, ◌==◌, List, [], ◌∷◌, Some, take, sym, ◌∙◌, ap, subst, arith}
use Rattle.std.specs.Prelude.{nat_lt, slice_get}
use Rattle.std.specs.declared.cmp.Ordering.{Ordering}
use Rattle.std.specs.declared.cmp.Ordering.TheVariants.{Equal, Greater, Less}
use Rattle.std.specs.Ordering.{nat_cmp, ordering_then}
use Rattle.std.specs.Cmp.{nat_cmp_is}
use Rattle.std.specs.Cmp.Lexicographic.{slice_cmp}
use Rattle.std.specs.List.{AllByRecursion}
use Rattle.std.specs.List.Sorted.{IsStrictlySortedBy}
use Rattle.std.proofs.lemmas.Bool.{and_parts, eqb-true, ltb-true, or_cases}
use Rattle.ips_text.specs.Ancestry.{same_path}
use Rattle.ips_text.proofs.Ancestry.{same_path-true}
use Rattle.ips_after.specs.Lists.{listed}
use Rattle.ips_after.specs.Salvage.{lesser}
use Rattle.ips_found.specs.Found.{thing_paths}
use Rattle.ips_found.specs.declared.found.Thing.{Thing}
use Rattle.ips_strays.specs.foreign.Foreign.{is_lost_thing}

not_same : (p q : List ℕ) → same_path p q ≡ true → lesser q p ≡ true → ⊥
not_same [] [] s h = cc
not_same [] (b ∷ q) s h = cc
not_same (a ∷ p) [] s h = cc
not_same (a ∷ p) (b ∷ q) s h =
    let parts = and_parts (a == b) (same_path p q) s in
    go (eqb-true a b parts.0) (not_same p q parts.1) (or_cases (nat_lt b a) ((b == a) && lesser q p) h)
  where
    go : a ≡ b → (lesser q p ≡ true → ⊥) → (nat_lt b a ≡ true) ⊎ (((b == a) && lesser q p) ≡ true) → ⊥
    go one rest (inl l) = let less = ltb-true b a l in omega (arith, less, one)
    go one rest (inr r) = rest (and_parts (b == a) (lesser q p) r).1

-- what comes behind isn't less
not_behind : (p q : List ℕ) → slice_cmp nat_cmp p q ≡ Less → lesser q p ≡ true → ⊥
not_behind [] [] l h = cc
not_behind [] (b ∷ q) l h = cc
not_behind (a ∷ p) [] l h = cc
not_behind (a ∷ p) (b ∷ q) l h = go (not_behind p q) (or_cases (nat_lt b a) ((b == a) && lesser q p) h)
  where
    go : (slice_cmp nat_cmp p q ≡ Less → lesser q p ≡ true → ⊥) → (nat_lt b a ≡ true) ⊎ (((b == a) && lesser q p) ≡ true) → ⊥
    go rec (inl less) =
        let over : Greater ≡ nat_cmp a b = nat_cmp_is a b Greater (ltb-true b a less) in
        let bad : Greater ≡ Less = ap (λ (o : Ordering). ordering_then o (slice_cmp nat_cmp p q)) over ∙ l in
        cc
    go rec (inr rest) =
        let parts = and_parts (b == a) (lesser q p) rest in
        let one : Equal ≡ nat_cmp a b = nat_cmp_is a b Equal (sym (eqb-true b a parts.0)) in
        rec (ap (λ (o : Ordering). ordering_then o (slice_cmp nat_cmp p q)) one ∙ l) parts.1

-- nor is what is among paths that come behind
none_behind : (p q : List ℕ) (things : List Thing) → AllByRecursion (λ (x : List ℕ). slice_cmp nat_cmp p x ≡ Less) (thing_paths things) → lesser q p ≡ true → listed (thing_paths things) q ≡ true → ⊥
none_behind p q [] all less there = cc
none_behind p q (z ∷ things) all less there = go (none_behind p q things all.1 less) (or_cases (same_path z.path.bytes q) (listed (thing_paths things) q) there)
  where
    go : (listed (thing_paths things) q ≡ true → ⊥) → (same_path z.path.bytes q ≡ true) ⊎ (listed (thing_paths things) q ≡ true) → ⊥
    go later (inl same) = not_behind p q (ap (slice_cmp nat_cmp p) (sym (same_path-true z.path.bytes q same)) ∙ all.0) less
    go later (inr rest) = later rest

-- where no thing is lost, the test that tells so holds at none of their paths
pub none_lost : (test : List ℕ → Bool) (things : List Thing) (q : List ℕ) → AllByRecursion (λ y. is_lost_thing y ≡ test y.path.bytes) things → AllByRecursion (λ y. is_lost_thing y ≡ false) things → listed (thing_paths things) q ≡ true → test q ≡ false
none_lost test [] q told none there = cc
none_lost test (y ∷ things) q told none there = go (none_lost test things q told.1 none.1) (or_cases (same_path y.path.bytes q) (listed (thing_paths things) q) there)
  where
    go : (listed (thing_paths things) q ≡ true → test q ≡ false) → (same_path y.path.bytes q ≡ true) ⊎ (listed (thing_paths things) q ≡ true) → test q ≡ false
    go later (inl same) = ap test (sym (same_path-true y.path.bytes q same)) ∙ sym told.0 ∙ none.0
    go later (inr rest) = later rest

-- nor before the first that is
pub none_before : (test : List ℕ → Bool) (things : List Thing) (k : ℕ) (x : Thing) (q : List ℕ) → IsStrictlySortedBy (slice_cmp nat_cmp) (thing_paths things) → slice_get things k ≡ Some x
    → AllByRecursion (λ y. is_lost_thing y ≡ test y.path.bytes) things → AllByRecursion (λ y. is_lost_thing y ≡ false) (take k things) → lesser q x.path.bytes ≡ true → listed (thing_paths things) q ≡ true → test q ≡ false
unfolding IsStrictlySortedBy
none_before test [] k x q order at told none less there = cc
none_before test (y ∷ things) zero x q order at told none less there = absurd (go (or_cases (same_path y.path.bytes q) (listed (thing_paths things) q) there))
  where
    one : y ≡ x
    one = same y x at
      where
        same : (a b : Thing) → Some a ≡ Some b → a ≡ b
        same a b e = cc

    below : lesser q y.path.bytes ≡ true
    below = ap (λ (z : Thing). lesser q z.path.bytes) one ∙ less

    go : (same_path y.path.bytes q ≡ true) ⊎ (listed (thing_paths things) q ≡ true) → ⊥
    go (inl same) = not_same y.path.bytes q same below
    go (inr rest) = none_behind y.path.bytes q things order.0 below rest
none_before test (y ∷ things) (suc k) x q order at told none less there = go (none_before test things k x q order.1 at told.1 none.1 less) (or_cases (same_path y.path.bytes q) (listed (thing_paths things) q) there)
  where
    go : (listed (thing_paths things) q ≡ true → test q ≡ false) → (same_path y.path.bytes q ≡ true) ⊎ (listed (thing_paths things) q ≡ true) → test q ≡ false
    go later (inl same) = ap test (sym (same_path-true y.path.bytes q same)) ∙ sym told.0 ∙ none.0
    go later (inr rest) = later rest

-- what holds of each thing holds of the one at a place
pub at_place : (P : Thing → Type 0) (things : List Thing) (k : ℕ) (x : Thing) → slice_get things k ≡ Some x → AllByRecursion P things → P x
at_place P [] k x at all = cc
at_place P (y ∷ things) zero x at all = subst P (same y x at) all.0
  where
    same : (a b : Thing) → Some a ≡ Some b → a ≡ b
    same a b e = cc
at_place P (y ∷ things) (suc k) x at all = at_place P things k x at all.1
