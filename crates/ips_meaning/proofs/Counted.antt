-- The action that counts at each path among those at the places below a number.
use Rattle.std.proofs.Common.{◌≡◌, ◌≢◌, ℕ, ◌+◌, ◌<◌, ◌≤◌, Bool, true, false, cond, List, length, Option, Some, None, refl, sym, ap, subst, ◌∙◌, inl, inr, arith}
use Rattle.std.specs.Prelude.{slice_get, MatchOption, IfSome}
use Rattle.std.specs.Ordering.{is_lt}
use Rattle.std.specs.Cmp.{IsTotalOrder, then_total, on_total}
use Rattle.std.specs.declared.cmp.Ordering.TheVariants.{Less, Greater}
use Rattle.std.proofs.lemmas.Cmp.{nat_cmp_total}
use Rattle.std.proofs.lemmas.Bool.{true≢false}
use Rattle.std.proofs.lemmas.Option.{slice_get_within, none-some, same_Some}
use Rattle.ips_action.specs.Attrs.{is_same}
use Rattle.ips_conflict.specs.declared.placed.Placed.{Placed}
use Rattle.ips_conflict.specs.Key.{key_of}
use Rattle.ips_conflict.specs.Clash.{HasKey, path_key}
use Rattle.ips_conflict.proofs.Places.{one_there, below_or_last}
use Rattle.ips_conflict.proofs.Kept.{is_same_self}
use Rattle.ips_conflict.proofs.Ordered.{le_trans, le_of_less, le_self, le_unless, place_total}
use Rattle.ips_meaning.specs.Want.{IsGiven}
use Rattle.ips_meaning.specs.Places.{given_path, rank_at, count_cmp, Leads, PathMap, place_of, AreLeading, first_of}
use Rattle.ips_meaning.proofs.Given.{given_is, given_from}
use Rattle.ips_text.proofs.Orders.{less_is}
use Rattle.ips_action.proofs.KeyOrder.{same_true}

pub count_total : (kept : List Placed) → IsTotalOrder (count_cmp kept)
count_total kept = then_total (on_total (rank_at kept) nat_cmp_total) (place_total kept)

pub record LeadsTo (kept : List Placed) (k : ℕ) (path : List ℕ) (i : ℕ) : Type 0 where
  pub p : Placed
  pub within : i < k
  pub at : HasKey kept (path_key path) i p
  pub first : (j : ℕ) (q : Placed) → j < k → HasKey kept (path_key path) j q → count_cmp kept i j ≢ Greater

abbrev pub PathTo : List Placed → ℕ → List ℕ → Option ℕ → Type 0
PathTo kept k path found = MatchOption found ((i : ℕ) (p : Placed) → i < k → HasKey kept (path_key path) i p → ⊥) (λ i. LeadsTo kept k path i)

abbrev pub PathsTo : List Placed → ℕ → PathMap → Type 0
PathsTo kept k map = (path : List ℕ) → PathTo kept k path (place_of map path)

-- the last one doesn't give the path
same_path : (kept : List Placed) (k : ℕ) (path : List ℕ) (found : Option ℕ) → ((q : Placed) → HasKey kept (path_key path) k q → ⊥) → PathTo kept k path found → PathTo kept (k + 1) path found
same_path kept k path None not none = λ i p lt at. elim (below_or_last i k lt) [ inl below ↦ none i p below at | inr same ↦ not p (subst (λ (j : ℕ). HasKey kept (path_key path) j p) same at) ]
same_path kept k path (Some i) not h = record {
  p = h.p;
  within = omega (arith, h.within);
  at = h.at;
  first = λ j q lt at. elim (below_or_last j k lt) [ inl below ↦ h.first j q below at | inr same ↦ absurd (not q (subst (λ (n : ℕ). HasKey kept (path_key path) n q) same at)) ];
}

-- the last one is the only one there
only_one : (kept : List Placed) (k : ℕ) (path : List ℕ) (p : Placed) → HasKey kept (path_key path) k p → ((i : ℕ) (q : Placed) → i < k → HasKey kept (path_key path) i q → ⊥) → LeadsTo kept (k + 1) path k
only_one kept k path p at none = record {
  p = p;
  within = omega arith;
  at = at;
  first = λ j q lt there. elim (below_or_last j k lt) [ inl below ↦ absurd (none j q below there) | inr same ↦ subst (λ (n : ℕ). count_cmp kept k n ≢ Greater) (sym same) (le_self (count_cmp kept) (count_total kept) k) ];
}

-- the last one comes before the one that counted
new_one : (kept : List Placed) (k : ℕ) (path : List ℕ) (p : Placed) (i : ℕ) → HasKey kept (path_key path) k p → LeadsTo kept k path i → count_cmp kept k i ≡ Less → LeadsTo kept (k + 1) path k
new_one kept k path p i at h less = record {
  p = p;
  within = omega arith;
  at = at;
  first = λ j q lt there. elim (below_or_last j k lt) [
    | inl below ↦ le_trans (count_cmp kept) (count_total kept) k i j (le_of_less (count_cmp kept) (count_total kept) k i less) (h.first j q below there)
    | inr same ↦ subst (λ (n : ℕ). count_cmp kept k n ≢ Greater) (sym same) (le_self (count_cmp kept) (count_total kept) k)
  ];
}

-- it doesn't
old_one : (kept : List Placed) (k : ℕ) (path : List ℕ) (i : ℕ) → LeadsTo kept k path i → (count_cmp kept k i ≡ Less → ⊥) → LeadsTo kept (k + 1) path i
old_one kept k path i h not = record {
  p = h.p;
  within = omega (arith, h.within);
  at = h.at;
  first = λ j q lt there. elim (below_or_last j k lt) [
    | inl below ↦ h.first j q below there
    | inr same ↦ subst (λ (n : ℕ). count_cmp kept i n ≢ Greater) (sym same) (le_unless (count_cmp kept) (count_total kept) i k not)
  ];
}

led : (kept : List Placed) (k : ℕ) (path : List ℕ) (p : Placed) (before : Option ℕ) → HasKey kept (path_key path) k p → PathTo kept k path before → LeadsTo kept (k + 1) path (first_of kept before k)
led kept k path p None at none = only_one kept k path p at none
led kept k path p (Some j) at h = go (is_lt (count_cmp kept k j)) refl
  where
    go : (t : Bool) → is_lt (count_cmp kept k j) ≡ t → LeadsTo kept (k + 1) path (cond t k j)
    go true e = new_one kept k path p j at h (less_is (count_cmp kept k j) e)
    go false e = old_one kept k path j h (λ less. true≢false (sym (ap is_lt less) ∙ e))

counted_by : (kept : List Placed) (k : ℕ) (p : Placed) (at path : List ℕ) (before : Option ℕ) (t : Bool) → is_same path at ≡ t → slice_get kept k ≡ Some p → given_path p ≡ Some at → PathTo kept k path before
    → PathTo kept (k + 1) path (cond t (Some (first_of kept before k)) before)
counted_by kept k p at path before true same here gives h =
    let key : key_of p ≡ Some (path_key path) = given_is p path (gives ∙ ap (λ (x : List ℕ). Some x) (sym (same_true path at same))) in
    led kept k path p before (record { here = here; key_is = key }) h
counted_by kept k p at path before false same here gives h =
    same_path kept k path before (λ q there.
    let one : q ≡ p = one_there kept k q p there.here here in
    let is : path ≡ at = same_Some path at (sym (given_from q path there.key_is) ∙ ap given_path one ∙ gives) in
    true≢false (sym (subst (λ (x : List ℕ). is_same path x ≡ true) is (is_same_self path)) ∙ same)) h

pub paths_more : (kept : List Placed) (k : ℕ) (p : Placed) (at : List ℕ) (old new : PathMap) → slice_get kept k ≡ Some p → given_path p ≡ Some at → PathsTo kept k old
    → ((path : List ℕ) → place_of new path ≡ cond (is_same path at) (Some (first_of kept (place_of old path) k)) (place_of old path)) → PathsTo kept (k + 1) new
paths_more kept k p at old new here gives so_far counts path =
    subst (λ (o : Option ℕ). PathTo kept (k + 1) path o) (sym (counts path)) (counted_by kept k p at path (place_of old path) (is_same path at) refl here gives (so_far path))

pub paths_same : (kept : List Placed) (k : ℕ) (p : Placed) (map : PathMap) → slice_get kept k ≡ Some p → given_path p ≡ None → PathsTo kept k map → PathsTo kept (k + 1) map
paths_same kept k p map here gives so_far path =
    same_path kept k path (place_of map path) (λ q there.
    let one : q ≡ p = one_there kept k q p there.here here in
    none-some path (sym gives ∙ sym (ap given_path one) ∙ given_from q path there.key_is)) (so_far path)

pub paths_none : (kept : List Placed) (map : PathMap) → ((path : List ℕ) → place_of map path ≡ None) → PathsTo kept 0 map
paths_none kept map none path = subst (λ (o : Option ℕ). PathTo kept 0 path o) (sym (none path)) (λ i p lt at. omega (arith, lt))

pub paths_within : (kept : List Placed) (k n : ℕ) (map : PathMap) (path : List ℕ) → k ≤ n → PathsTo kept k map → IfSome (place_of map path) (λ j. j < n)
paths_within kept k n map path le all = go (place_of map path) (all path)
  where
    go : (o : Option ℕ) → PathTo kept k path o → IfSome o (λ j. j < n)
    go None h = tt
    go (Some i) h = omega (arith, h.within)

pub paths_done : (kept : List Placed) (k : ℕ) (map : PathMap) → length kept ≤ k → PathsTo kept k map → AreLeading kept map
paths_done kept k map le all path = go (place_of map path) (all path)
  where
    go : (o : Option ℕ) → PathTo kept k path o → MatchOption o (IsGiven kept path → ⊥) (λ i. Leads kept path i)
    go None h = λ w. h w.0 w.1 (omega (arith, slice_get_within kept w.0 w.1 w.2.here)) w.2
    go (Some i) h = record {
      p = h.p;
      at = h.at;
      first = λ j q at. h.first j q (omega (arith, slice_get_within kept j q at.here)) at;
    }

-- what is found at a path once an action is counted
pub counts_as : (kept : List Placed) (old : PathMap) (q path key : List ℕ) (i first : ℕ) → key ≡ path → first ≡ first_of kept (place_of old path) i
    → cond (is_same q key) (Some first) (place_of old q) ≡ cond (is_same q path) (Some (first_of kept (place_of old q) i)) (place_of old q)
counts_as kept old q path key i first at is = ap (λ (p : List ℕ). cond (is_same q p) (Some first) (place_of old q)) at ∙ go (is_same q path) refl
  where
    go : (t : Bool) → is_same q path ≡ t → cond t (Some first) (place_of old q) ≡ cond t (Some (first_of kept (place_of old q) i)) (place_of old q)
    go true same = ap (λ (n : ℕ). Some n) (is ∙ ap (λ (p : List ℕ). first_of kept (place_of old p) i) (sym (same_true q path same)))
    go false same = refl
