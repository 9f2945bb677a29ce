-- The first kind of a list that takes a sort.
use Rattle.std.proofs.Common.{◌≡◌, ℕ, zero, suc, ◌+◌, ◌<◌, ◌≤◌, Bool, true, false, ◌&&◌, List, [], ◌∷◌, length, take, set, get_or, slice_get, Option, Some, None, is_some, IfNone, IfSome, refl, sym, ◌∙◌, ap, subst, arith}
use Rattle.std.proofs.lemmas.Bool.{and_parts, or_parts, or_from, or_left, or_right}
use Rattle.ips_steps.specs.declared.step.Sort.{Sort}
use Rattle.ips_steps.specs.declared.step.Sort.TheVariants as sort
use Rattle.ips_kinds.specs.Acts.{tally_after}
use Rattle.ips_kinds.specs.Tallies.{Carrier, seen_by, taken, counted, IsFirstTaker}
use Rattle.ips_kinds.specs.declared.kind.Act.TheVariants.{Finished}
use Rattle.ips_kinds.proofs.Counting.{nothing_counted, first_takes, one_counted}

module _ {K : Type 0} (sorts : K → Sort → Bool) (finished : K → ℕ) where
  abbrev seen : List K → List Carrier
  seen kinds = seen_by sorts finished kinds

  stands_seen : (kinds : List K) (i : ℕ) (k : K) → i < length kinds → k ≡ get_or kinds i k → slice_get (seen kinds) i ≡ Some (record { sorts = sorts k; finished = finished k })
  stands_seen [] i k lt is = absurd (omega (arith, lt))
  stands_seen (x ∷ rest) zero k lt is = ap (λ (y : K). Some (record { sorts = sorts y; finished = finished y })) (sym is)
  stands_seen (x ∷ rest) (suc i) k lt is = stands_seen rest i k (omega (arith, lt)) is

  none_suc : (s : Sort) (kinds : List K) (i : ℕ) (k : K) → k ≡ get_or kinds i k → sorts k s ≡ false → taken (take i (seen kinds)) s ≡ false → taken (take (suc i) (seen kinds)) s ≡ false
  none_suc s [] i k is other none = refl
  none_suc s (x ∷ rest) zero k is other none = or_from (sorts x s) false (ap (λ (y : K). sorts y s) (sym is) ∙ other) refl
  none_suc s (x ∷ rest) (suc i) k is other none = let parts = or_parts (sorts x s) _ none in or_from (sorts x s) _ parts.0 (none_suc s rest i k is other parts.1)

  -- one kind more that doesn't take it
  pub none_yet : (s : Sort) (kinds : List K) (i : ℕ) (k : K) → k ≡ get_or kinds i k → sorts k s ≡ false → taken (take i (seen kinds)) s ≡ false → taken (take (i + 1) (seen kinds)) s ≡ false
  none_yet s kinds i k is other none = let more : suc i ≡ i + 1 = omega arith in subst (λ (n : ℕ). taken (take n (seen kinds)) s ≡ false) more (none_suc s kinds i k is other none)

  pub is_first : (s : Sort) (kinds : List K) (i : ℕ) (k : K) → i < length kinds → k ≡ get_or kinds i k → sorts k s ≡ true → taken (take i (seen kinds)) s ≡ false → IsFirstTaker (seen kinds) s i
  is_first s kinds i k lt is takes none = record { kind = record { sorts = sorts k; finished = finished k }; stands = stands_seen kinds i k lt is; takes = takes; first = none }

  pub none_at_all : (s : Sort) (kinds : List K) (i : ℕ) → length kinds ≤ i → taken (take i (seen kinds)) s ≡ false → taken (seen kinds) s ≡ false
  none_at_all s [] i le none = refl
  none_at_all s (x ∷ rest) zero le none = absurd (omega (arith, le))
  none_at_all s (x ∷ rest) (suc i) le none = let parts = or_parts (sorts x s) _ none in or_from (sorts x s) _ parts.0 (none_at_all s rest i (omega (arith, le)) parts.1)

  -- some kind takes it, and none does
  pub clashing : (s : Sort) (slice kinds : List K) → slice ≡ kinds → taken (seen kinds) s ≡ true → taken (seen slice) s ≡ false → ⊥
  clashing s slice kinds same takes none = let both : true ≡ false = sym takes ∙ ap (λ (l : List K). taken (seen l) s) (sym same) ∙ none in cc

  taken_by : (kinds : List Carrier) (s : Sort) (i : ℕ) (k : Carrier) → slice_get kinds i ≡ Some k → k.sorts s ≡ true → taken kinds s ≡ true
  taken_by [] s i k is takes = cc
  taken_by (x ∷ rest) s zero k is takes = let one : x ≡ k = cc in or_left (x.sorts s) _ (ap (λ (y : Carrier). y.sorts s) one ∙ takes)
  taken_by (x ∷ rest) s (suc i) k is takes = or_right (x.sorts s) _ (taken_by rest s i k is takes)

  -- there is a first one just where some kind takes it
  pub decides : (s : Sort) (kinds : List K) (r : Option ℕ) → IfNone r (taken (seen kinds) s ≡ false) → IfSome r (IsFirstTaker (seen kinds) s) → is_some r ≡ taken (seen kinds) s
  decides s kinds None none first = sym none
  decides s kinds (Some i) none first = sym (taken_by (seen kinds) s i first.kind first.stands first.takes)

  pub decides_as : (s t : Sort) (slice kinds : List K) (r : Option ℕ) → slice ≡ kinds → s ≡ t → IfNone r (taken (seen slice) s ≡ false) → IfSome r (IsFirstTaker (seen slice) s) → is_some r ≡ taken (seen kinds) t
  decides_as s t slice kinds r same is none first = decides s slice r none first ∙ ap (λ (l : List K). taken (seen l) s) same ∙ ap (taken (seen kinds)) is

  there : (kinds : List K) (i : ℕ) (k : K) (e : Carrier) → k ≡ get_or kinds i k → slice_get (seen kinds) i ≡ Some e → slice_get kinds i ≡ Some k
  there [] i k e is seen_is = cc
  there (x ∷ rest) zero k e is seen_is = ap (λ (y : K). Some y) (sym is)
  there (x ∷ rest) (suc i) k e is seen_is = there rest i k e is seen_is

  module _ (s : Sort) (slice kinds : List K) (same : slice ≡ kinds) (i : ℕ) (k : K) (is : k ≡ get_or kinds i k) (first : IsFirstTaker (seen slice) s i) where
    taker : IsFirstTaker (seen kinds) s i
    taker = subst (λ (l : List K). IsFirstTaker (seen l) s i) same first

    at : slice_get kinds i ≡ Some k
    at = there kinds i k taker.kind is taker.stands

    pub it_takes : sorts k s ≡ true
    it_takes = first_takes sorts finished s kinds i k at taker

    pub it_counts : (new : K) → sorts new ≡ sorts k → finished new ≡ tally_after Finished (finished k) → seen (set kinds i new) ≡ counted s (seen kinds)
    it_counts new same_sorts tally = one_counted sorts finished s kinds i k new at taker same_sorts tally

    pub it_stays : (new : K) → sorts new ≡ sorts k → finished new ≡ finished k → seen (set kinds i new) ≡ seen kinds
    it_stays new same_sorts tally = nothing_counted sorts finished kinds i k new at same_sorts tally

-- what holds of each sort
pub each_sort : (P : Sort → Type 0) → P sort.Gone → P sort.Fresh → P sort.Mode → P sort.Put → P sort.Link → P sort.Hard → (s : Sort) → P s
each_sort P a b c d e f sort.Gone = a
each_sort P a b c d e f sort.Fresh = b
each_sort P a b c d e f sort.Mode = c
each_sort P a b c d e f sort.Put = d
each_sort P a b c d e f sort.Link = e
each_sort P a b c d e f sort.Hard = f

pub all_six : (t : Sort → Bool) (a b c d e f : Bool) → a ≡ t sort.Gone → b ≡ t sort.Fresh → c ≡ t sort.Mode → d ≡ t sort.Put → e ≡ t sort.Link → f ≡ t sort.Hard
    → (((((a && b) && c) && d) && e) && f) ≡ true → (s : Sort) → t s ≡ true
all_six t a b c d e f ga fb mc pd le hf all =
    let five = and_parts ((((a && b) && c) && d) && e) f all in
    let four = and_parts (((a && b) && c) && d) e five.0 in
    let three = and_parts ((a && b) && c) d four.0 in
    let two = and_parts (a && b) c three.0 in
    let one = and_parts a b two.0 in
    each_sort (λ s. t s ≡ true) (sym ga ∙ one.0) (sym fb ∙ one.1) (sym mc ∙ two.1) (sym pd ∙ three.1) (sym le ∙ four.1) (sym hf ∙ five.1)
