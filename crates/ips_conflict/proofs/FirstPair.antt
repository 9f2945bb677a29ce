-- The first two actions of a key that break a rule.
use Rattle.std.proofs.Common.{◌≡◌, ◌≢◌, ◌==◌, ℕ, ◌<◌, true, false, List, Option, Some, None, refl, sym, ap, subst, ◌∙◌, inl, inr, arith}
use Rattle.std.specs.Ordering.{ordering_then, nat_cmp, MatchOrdering}
use Rattle.std.specs.Option.{option_cmp}
use Rattle.std.specs.Cmp.{ranks}
use Rattle.std.specs.declared.cmp.Ordering.{Ordering}
use Rattle.std.specs.declared.cmp.Ordering.TheVariants.{Less, Equal, Greater}
use Rattle.std.proofs.lemmas.Bool.{true≢false, false_from_ne_true, eqb-true, eq-eqb}
use Rattle.ips_conflict.specs.declared.placed.Placed.{Placed}
use Rattle.ips_conflict.specs.declared.clashing.Rule.{Rule}
use Rattle.ips_conflict.specs.declared.clashing.Rule.TheVariants.{Mediator, Kinds, Attributes, Deliverers, Below, Target}
use Rattle.ips_conflict.specs.declared.earliest.Test.TheVariants.{After, Against}
use Rattle.ips_conflict.specs.Key.{Key}
use Rattle.ips_conflict.specs.Order.{place_cmp}
use Rattle.ips_conflict.specs.Alike.{kind_place, alike, overlaid}
use Rattle.ips_conflict.specs.Verdict.{rule_rank, breaks}
use Rattle.ips_conflict.specs.Clash.{HasKey, Conflict, IsPair, IsConflict, IsConflictBy}
use Rattle.ips_conflict.specs.Search.{Passes, IsEarliest, IsFirstBy, NoneBelow, conflict, domain_of}
use Rattle.ips_conflict.proofs.Places.{one_there}
use Rattle.ips_conflict.proofs.Ordered.{place_total, le_cases}
use Rattle.ips_conflict.proofs.Grouped.{Keyed, key_sort}
use Rattle.ips_conflict.proofs.Likeness.{links_told, same_mediators, kinds_told, not_kinds, unlike_told, like_told, files_told, overlay_told, alike_both, no_three}
use Rattle.ips_text.proofs.Orders.{last_tie}

-- ---- two actions of a key that break a rule

pub record PairOf (placed : List Placed) (key : Key) (rule : Rule) (i j : ℕ) : Type 0 where
  pub a : Placed
  pub b : Placed
  pub a_key : HasKey placed key i a
  pub b_key : HasKey placed key j b
  pub earlier : place_cmp placed i j ≡ Less
  pub broken : breaks rule a.action b.action ≡ true

pair_by : (rule : Rule) (placed : List Placed) (d : Conflict) → rule_rank rule < 4 → IsConflictBy rule placed d → IsPair placed d
pair_by Mediator placed d low h = h
pair_by Kinds placed d low h = h
pair_by Attributes placed d low h = h
pair_by Deliverers placed d low h = h
pair_by Below placed d low h = absurd (omega arith)
pair_by Target placed d low h = absurd (omega arith)

by_pair : (rule : Rule) (placed : List Placed) (d : Conflict) → rule_rank rule < 4 → IsPair placed d → IsConflictBy rule placed d
by_pair Mediator placed d low h = h
by_pair Kinds placed d low h = h
by_pair Attributes placed d low h = h
by_pair Deliverers placed d low h = h
by_pair Below placed d low h = absurd (omega arith)
by_pair Target placed d low h = absurd (omega arith)

-- a clash by such a rule is two such actions
pub pair_of : (placed : List Placed) (key : Key) (rule : Rule) (d : Conflict) → rule_rank rule < 4 → IsConflict placed d → d.key ≡ key → d.rule ≡ rule → (j : ℕ) × (d.second ≡ Some j) × PairOf placed key rule d.first j
pair_of placed key rule d low h ek er =
    let p = pair_by d.rule placed d (omega (arith, low, ap rule_rank er)) h in (
      p.other,
      p.second,
      record {
        a = p.a;
        b = p.b;
        a_key = subst (λ (k : Key). HasKey placed k d.first p.a) ek p.a_key;
        b_key = subst (λ (k : Key). HasKey placed k p.other p.b) ek p.b_key;
        earlier = p.earlier;
        broken = subst (λ (r : Rule). breaks r p.a.action p.b.action ≡ true) er p.broken;
      },
    )

pub conflict_of : (placed : List Placed) (key : Key) (rule : Rule) (i j : ℕ) → rule_rank rule < 4 → PairOf placed key rule i j → IsConflict placed (conflict key rule i (Some j))
conflict_of placed key rule i j low p =
    by_pair rule placed (conflict key rule i (Some j)) low (record { other = j; a = p.a; b = p.b; second = refl; a_key = p.a_key; b_key = p.b_key; earlier = p.earlier; broken = p.broken })

in_domain : (rule : Rule) (placed : List Placed) (i : ℕ) (a b : Placed) → breaks rule a.action b.action ≡ true → Passes placed (domain_of rule) i a
in_domain Mediator placed i a b h = (links_told a.action b.action h).0
in_domain Kinds placed i a b h = tt
in_domain Attributes placed i a b h = tt
in_domain Deliverers placed i a b h = tt
in_domain Below placed i a b h = tt
in_domain Target placed i a b h = tt

first_in : (placed : List Placed) (key : Key) (rule : Rule) (i j : ℕ) → PairOf placed key rule i j → Keyed placed key (domain_of rule) i
first_in placed key rule i j p = record { p = p.a; at = p.a_key; passes = in_domain rule placed i p.a p.b p.broken }

second_in : (placed : List Placed) (key : Key) (rule : Rule) (i j : ℕ) → PairOf placed key rule i j → Keyed placed key (Against i rule) j
second_in placed key rule i j p = record { p = p.b; at = p.b_key; passes = record { a = p.a; b = p.b; a_here = p.a_key.here; b_here = p.b_key.here; behind = p.earlier; broken = p.broken } }

pair_from : (placed : List Placed) (key : Key) (rule : Rule) (i j : ℕ) (a : Placed) → HasKey placed key i a → Keyed placed key (Against i rule) j → PairOf placed key rule i j
pair_from placed key rule i j a at k =
    let w = k.passes in
    let one : w.a ≡ a = one_there placed i w.a a w.a_here at.here in
    let other : w.b ≡ k.p = one_there placed j w.b k.p w.b_here k.at.here in
    record { a = a; b = k.p; a_key = at; b_key = k.at; earlier = w.behind; broken = subst (λ (y : Placed). breaks rule a.action y.action ≡ true) other (subst (λ (x : Placed). breaks rule x.action w.b.action ≡ true) one w.broken) }

-- ---- the order of pairs

pub place_tie : (placed : List Placed) (i j : ℕ) → place_cmp placed i j ≡ Equal → i ≡ j
place_tie placed i j e = subst (λ (o : Ordering). MatchOrdering o (i < j) (i ≡ j) (j < i)) (last_tie _ (nat_cmp i j) e) (ranks i j)

pub then_le : (o p : Ordering) → o ≢ Greater → (o ≡ Equal → p ≢ Greater) → ordering_then o p ≢ Greater
then_le Less p h k e = cc
then_le Equal p h k e = k refl e
then_le Greater p h k e = h refl

module _ (placed : List Placed) (key : Key) (rule : Rule) (low : rule_rank rule < 4) where
  -- a pair is the first where its first action isn't passed by that of another, nor its second by that of one with the same first
  first_pair_is : (i j : ℕ) → PairOf placed key rule i j → ((d : Conflict) (k : ℕ) → PairOf placed key rule d.first k → place_cmp placed i d.first ≢ Greater)
      → ((k : ℕ) → PairOf placed key rule i k → place_cmp placed j k ≢ Greater) → IsFirstBy placed key rule (Some (i, Some j))
  first_pair_is i j p le next = (
    conflict_of placed key rule i j low p,
    λ d h ek er.
        let w = pair_of placed key rule d low h ek er in
        then_le (place_cmp placed i d.first) (option_cmp (place_cmp placed) (Some j) d.second) (le d w.0 w.2) (λ tie.
        let same = place_tie placed i d.first tie in
        subst (λ (o : Option ℕ). option_cmp (place_cmp placed) (Some j) o ≢ Greater) (sym w.1) (next w.0 (subst (λ (n : ℕ). PairOf placed key rule n w.0) (sym same) w.2))),
  )

  pub none_in_domain : IsEarliest placed (Keyed placed key (domain_of rule)) None → IsFirstBy placed key rule None
  none_in_domain none d h ek er = let w = pair_of placed key rule d low h ek er in none d.first (first_in placed key rule d.first w.0 w.2)

  module _ (first : ℕ) (f : IsEarliest placed (Keyed placed key (domain_of rule)) (Some first)) where
    pub found_first : (second : ℕ) → IsEarliest placed (Keyed placed key (Against first rule)) (Some second) → IsFirstBy placed key rule (Some (first, Some second))
    found_first second s =
        first_pair_is first second (pair_from placed key rule first second f.0.p f.0.at s.0) (λ d k p. f.1 d.first (first_in placed key rule d.first k p)) (λ k p. s.1 k (second_in placed key rule first k p))

    module _ (n : IsEarliest placed (Keyed placed key (Against first rule)) None) where
      -- the first action of a pair stands behind the first of all
      behind : (i j : ℕ) → PairOf placed key rule i j → place_cmp placed first i ≡ Less
      behind i j p = elim (le_cases (place_cmp placed) (place_total placed) first i (f.1 i (first_in placed key rule i j p))) [
        | inl less ↦ less
        | inr tie ↦ absurd (n j (second_in placed key rule first j (subst (λ (k : ℕ). PairOf placed key rule k j) (sym (place_tie placed first i tie)) p)))
      ]

      after : (i j : ℕ) → PairOf placed key rule i j → Keyed placed key (After first) i
      after i j p = record { p = p.a; at = p.a_key; passes = behind i j p }

      pub none_after : IsEarliest placed (Keyed placed key (After first)) None → IsFirstBy placed key rule None
      none_after a d h ek er = let w = pair_of placed key rule d low h ek er in a d.first (after d.first w.0 w.2)

      module _ (next : ℕ) (a : IsEarliest placed (Keyed placed key (After first)) (Some next)) where
        pub found_next : (second : ℕ) → IsEarliest placed (Keyed placed key (Against next rule)) (Some second) → IsFirstBy placed key rule (Some (next, Some second))
        found_next second s =
            first_pair_is next second (pair_from placed key rule next second a.0.p a.0.at s.0) (λ d k p. a.1 d.first (after d.first k p)) (λ k p. s.1 k (second_in placed key rule next k p))

        -- what stands behind the first of all, or the next, doesn't break the rule with it
        fits_first : (k : ℕ) (q : Placed) → HasKey placed key k q → place_cmp placed first k ≡ Less → breaks rule f.0.p.action q.action ≡ false
        fits_first k q at less = false_from_ne_true (breaks rule f.0.p.action q.action) (λ is. n k (record { p = q; at = at; passes = record { a = f.0.p; b = q; a_here = f.0.at.here; b_here = at.here; behind = less; broken = is } }))

        fits_next : IsEarliest placed (Keyed placed key (Against next rule)) None → (k : ℕ) (q : Placed) → HasKey placed key k q → place_cmp placed next k ≡ Less → breaks rule a.0.p.action q.action ≡ false
        fits_next m k q at less = false_from_ne_true (breaks rule a.0.p.action q.action) (λ is. m k (record { p = q; at = at; passes = record { a = a.0.p; b = q; a_here = a.0.at.here; b_here = at.here; behind = less; broken = is } }))

-- no two actions of the key break a rule before
before_fits : (placed : List Placed) (key : Key) (rule other : Rule) → NoneBelow placed key (rule_rank rule) → rule_rank other < rule_rank rule → rule_rank rule < 4 → (i j : ℕ) (x y : Placed) → HasKey placed key i x → HasKey placed key j y → place_cmp placed i j ≡ Less → breaks other x.action y.action ≡ false
before_fits placed key rule other before lt low i j x y hx hy less =
    false_from_ne_true (breaks other x.action y.action) (λ is. before (conflict key other i (Some j)) (conflict_of placed key other i j (omega arith) (record { a = x; b = y; a_key = hx; b_key = hy; earlier = less; broken = is })) refl lt)

-- kinds that are the same as one kind are the same
same_places : (k l m : ℕ) → (k == l) ≡ true → (k == m) ≡ true → (l == m) ≡ true
same_places k l m x y = eq-eqb l m (sym (eqb-true k l x) ∙ eqb-true k m y)

file_also : (k l : ℕ) → (k == l) ≡ true → (l == 1) ≡ true → (k == 1) ≡ true
file_also k l x y = eq-eqb k 1 (eqb-true k l x ∙ eqb-true l 1 y)

no_file_also : (k l : ℕ) → (k == l) ≡ true → (l == 1) ≡ false → (k == 1) ≡ false
no_file_also k l x y = ap (λ (n : ℕ). n == 1) (eqb-true k l x) ∙ y

-- where the first of all and the next break the rule with none behind them, no two others do
core : (rule : Rule) (placed : List Placed) (key : Key) (first next i j : ℕ) (f n a b : Placed) → rule_rank rule < 4 → NoneBelow placed key (rule_rank rule)
    → HasKey placed key first f → HasKey placed key next n → HasKey placed key i a → HasKey placed key j b → Passes placed (domain_of rule) first f
    → place_cmp placed first next ≡ Less → place_cmp placed next i ≡ Less → place_cmp placed i j ≡ Less
    → breaks rule f.action n.action ≡ false → breaks rule f.action a.action ≡ false → breaks rule f.action b.action ≡ false → breaks rule n.action a.action ≡ false → breaks rule a.action b.action ≡ true → ⊥
core Mediator placed key first next i j f n a b low before hf hn ha hb linked x y z fn fa fb na is = same_mediators f.action a.action b.action linked fa fb is
core Kinds placed key first next i j f n a b low before hf hn ha hb any x y z fn fa fb na is =
    let p : Placed → ℕ = λ q. kind_place q.action.kind in
    let one = kinds_told (p f) (p a) (alike f.action a.action) (overlaid f.action a.action) fa in
    let other = kinds_told (p f) (p b) (alike f.action b.action) (overlaid f.action b.action) fb in
    not_kinds (p a) (p b) (alike a.action b.action) (overlaid a.action b.action) (same_places (p f) (p a) (p b) one other) is
core Attributes placed key first next i j f n a b low before hf hn ha hb any x y z fn fa fb na is =
    let p : Placed → ℕ = λ q. kind_place q.action.kind in
    let t = place_total placed in
    let fi = t.trans first next i x y in
    let fj = t.trans first i j fi z in
    let ka = kinds_told (p f) (p a) (alike f.action a.action) (overlaid f.action a.action) (before_fits placed key Attributes Kinds before (omega arith) low first i f a hf ha fi) in
    let kb = kinds_told (p f) (p b) (alike f.action b.action) (overlaid f.action b.action) (before_fits placed key Attributes Kinds before (omega arith) low first j f b hf hb fj) in
    let un = unlike_told (p a) (p b) (alike a.action b.action) (overlaid a.action b.action) is in
    let no = no_file_also (p f) (p a) ka un.0 in
    let la = like_told (p f) (p a) (alike f.action a.action) (overlaid f.action a.action) ka no fa in
    let lb = like_told (p f) (p b) (alike f.action b.action) (overlaid f.action b.action) kb no fb in
    true≢false (sym (alike_both f.action a.action b.action key.sort key.sort (key_sort f key hf.key_is) (key_sort a key ha.key_is) la lb) ∙ un.1)
core Deliverers placed key first next i j f n a b low before hf hn ha hb any x y z fn fa fb na is =
    let p : Placed → ℕ = λ q. kind_place q.action.kind in
    let t = place_total placed in
    let fi = t.trans first next i x y in
    let kn = kinds_told (p f) (p n) (alike f.action n.action) (overlaid f.action n.action) (before_fits placed key Deliverers Kinds before (omega arith) low first next f n hf hn x) in
    let ka = kinds_told (p f) (p a) (alike f.action a.action) (overlaid f.action a.action) (before_fits placed key Deliverers Kinds before (omega arith) low first i f a hf ha fi) in
    let kna = kinds_told (p n) (p a) (alike n.action a.action) (overlaid n.action a.action) (before_fits placed key Deliverers Kinds before (omega arith) low next i n a hn ha y) in
    let file = files_told (p a) (p b) (alike a.action b.action) (overlaid a.action b.action) is in
    let ff = file_also (p f) (p a) ka file in
    let nf = file_also (p n) (p a) kna file in
    no_three f.action n.action a.action (overlay_told (p f) (p n) (alike f.action n.action) (overlaid f.action n.action) kn ff fn) (overlay_told (p f) (p a) (alike f.action a.action) (overlaid f.action a.action) ka ff fa)
    (overlay_told (p n) (p a) (alike n.action a.action) (overlaid n.action a.action) kna nf na)
core Below placed key first next i j f n a b low before hf hn ha hb any x y z fn fa fb na is = absurd (omega arith)
core Target placed key first next i j f n a b low before hf hn ha hb any x y z fn fa fb na is = absurd (omega arith)

-- nothing is left
pub none_left : (placed : List Placed) (key : Key) (rule : Rule) (low : rule_rank rule < 4) (first : ℕ) (f : IsEarliest placed (Keyed placed key (domain_of rule)) (Some first)) (n : IsEarliest placed (Keyed placed key (Against first rule)) None) (next : ℕ)
    (a : IsEarliest placed (Keyed placed key (After first)) (Some next)) → IsEarliest placed (Keyed placed key (Against next rule)) None → NoneBelow placed key (rule_rank rule) → IsFirstBy placed key rule None
none_left placed key rule low first f n next a m before d h ek er =
    let w = pair_of placed key rule d low h ek er in
    let p = w.2 in
    let t = place_total placed in
    elim (le_cases (place_cmp placed) t next d.first (a.1 d.first (after placed key rule low first f n d.first w.0 p))) [
      | inr tie ↦ m w.0 (second_in placed key rule next w.0 (subst (λ (k : ℕ). PairOf placed key rule k w.0) (sym (place_tie placed next d.first tie)) p))
      | inl less ↦
          let fi = t.trans first next d.first a.0.passes less in
          let fj = t.trans first d.first w.0 fi p.earlier in
          core rule placed key first next d.first w.0 f.0.p a.0.p p.a p.b low before f.0.at a.0.at p.a_key p.b_key f.0.passes a.0.passes less p.earlier
          (fits_first placed key rule low first f n next a next a.0.p a.0.at a.0.passes) (fits_first placed key rule low first f n next a d.first p.a p.a_key fi) (fits_first placed key rule low first f n next a w.0 p.b p.b_key fj)
          (fits_next placed key rule low first f n next a m d.first p.a p.a_key less) p.broken
    ]
