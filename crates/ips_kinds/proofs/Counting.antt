-- How the kinds of a list count steps.
use Rattle.std.proofs.Common.{◌≡◌, ℕ, zero, suc, ◌+◌, ◌-◌, ◌^◌, ◌<◌, min, Bool, true, false, cond, ◌||◌, List, [], ◌∷◌, ◌++◌, length, take, set, slice_get, Some, refl, sym, ◌∙◌, ap, ap₂, subst, arith}
use Rattle.std.specs.List.{All}
use Rattle.std.proofs.lemmas.List.Elements.{All-head, All-tail}
use Rattle.std.proofs.lemmas.Bool.{or_parts}
use Rattle.ips_steps.specs.Steps.{Step}
use Rattle.ips_steps.specs.View.{sort_of}
use Rattle.ips_steps.specs.declared.step.Sort.{Sort}
use Rattle.ips_steps.specs.declared.step.Sort.TheVariants as sort
use Rattle.ips_kinds.specs.Acts.{same_sort, tally_after}
use Rattle.ips_kinds.specs.declared.kind.Act.TheVariants.{Finished}
use Rattle.ips_kinds.specs.Tallies.{Carrier, seen_by, taken, one_more, counted, all_counted, count_of_sort, tally_of_all, IsFirstTaker}

pub counted_more : (steps : List Step) (s : Step) (kinds : List Carrier) → all_counted (steps ++ s ∷ []) kinds ≡ counted (sort_of s) (all_counted steps kinds)
counted_more [] s kinds = refl
counted_more (x ∷ rest) s kinds = counted_more rest s (counted (sort_of x) kinds)

taken_counted : (s r : Sort) (kinds : List Carrier) → taken (counted s kinds) r ≡ taken kinds r
taken_counted s r [] = refl
taken_counted s r (k ∷ rest) = go (k.sorts s) (taken_counted s r rest)
  where
    go : (c : Bool) → taken (counted s rest) r ≡ taken rest r → taken (cond c (one_more k ∷ rest) (k ∷ counted s rest)) r ≡ (k.sorts r || taken rest r)
    go true later = refl
    go false later = ap (λ (b : Bool). k.sorts r || b) later

-- what the kinds take stays
pub taken_stays : (steps : List Step) (r : Sort) (kinds : List Carrier) → taken (all_counted steps kinds) r ≡ taken kinds r
taken_stays [] r kinds = refl
taken_stays (x ∷ rest) r kinds = taken_stays rest r (counted (sort_of x) kinds) ∙ taken_counted (sort_of x) r kinds

-- the first kind that takes a sort counts it
pub counted_at : (s : Sort) (kinds : List Carrier) (place : ℕ) (k : Carrier) → slice_get kinds place ≡ Some k → k.sorts s ≡ true → taken (take place kinds) s ≡ false → counted s kinds ≡ set kinds place (one_more k)
counted_at s [] place k is takes first = cc
counted_at s (x ∷ rest) zero k is takes first =
    let one : x ≡ k = cc in
    ap (λ (c : Bool). cond c (one_more x ∷ rest) (x ∷ counted s rest)) (ap (λ (y : Carrier). y.sorts s) one ∙ takes) ∙ ap (λ (y : Carrier). one_more y ∷ rest) one
counted_at s (x ∷ rest) (suc place) k is takes first =
    let parts = or_parts (x.sorts s) _ first in
    ap (λ (c : Bool). cond c (one_more x ∷ rest) (x ∷ counted s rest)) parts.0 ∙ ap (λ (l : List Carrier). x ∷ l) (counted_at s rest place k is takes parts.1)

-- ---- how far tallies rise

pub same_sort-true : (s r : Sort) → same_sort s r ≡ true → s ≡ r
same_sort-true sort.Gone sort.Gone h = refl
same_sort-true sort.Fresh sort.Fresh h = refl
same_sort-true sort.Mode sort.Mode h = refl
same_sort-true sort.Put sort.Put h = refl
same_sort-true sort.Link sort.Link h = refl
same_sort-true sort.Hard sort.Hard h = refl
same_sort-true s r h = cc

same_sort-self : (s : Sort) → same_sort s s ≡ true
same_sort-self sort.Gone = refl
same_sort-self sort.Fresh = refl
same_sort-self sort.Mode = refl
same_sort-self sort.Put = refl
same_sort-self sort.Link = refl
same_sort-self sort.Hard = refl

-- a kind that doesn't take the sort counts nothing
passed_over : (s : Sort) (kinds : List Carrier) (place : ℕ) (k : Carrier) → slice_get kinds place ≡ Some k → k.sorts s ≡ false → slice_get (counted s kinds) place ≡ Some k
passed_over s [] place k is off = cc
passed_over s (x ∷ rest) zero k is off =
    let one : x ≡ k = cc in
    ap (λ (c : Bool). slice_get (cond c (one_more x ∷ rest) (x ∷ counted s rest)) 0) (ap (λ (y : Carrier). y.sorts s) one ∙ off) ∙ is
passed_over s (x ∷ rest) (suc place) k is off = go (x.sorts s) (passed_over s rest place k is off)
  where
    go : (c : Bool) → slice_get (counted s rest) place ≡ Some k → slice_get (cond c (one_more x ∷ rest) (x ∷ counted s rest)) (suc place) ≡ Some k
    go true later = is
    go false later = later

-- the first that takes it counts one more
counts_one : (s : Sort) (kinds : List Carrier) (place : ℕ) (k : Carrier) → slice_get kinds place ≡ Some k → k.sorts s ≡ true → taken (take place kinds) s ≡ false → slice_get (counted s kinds) place ≡ Some (one_more k)
counts_one s [] place k is takes first = cc
counts_one s (x ∷ rest) zero k is takes first =
    let one : x ≡ k = cc in
    ap (λ (c : Bool). slice_get (cond c (one_more x ∷ rest) (x ∷ counted s rest)) 0) (ap (λ (y : Carrier). y.sorts s) one ∙ takes) ∙ ap (λ (y : Carrier). Some (one_more y)) one
counts_one s (x ∷ rest) (suc place) k is takes first =
    let parts = or_parts (x.sorts s) _ first in
    ap (λ (c : Bool). slice_get (cond c (one_more x ∷ rest) (x ∷ counted s rest)) (suc place)) parts.0 ∙ counts_one s rest place k is takes parts.1

taken_front : (s r : Sort) (kinds : List Carrier) (n : ℕ) → taken (take n (counted s kinds)) r ≡ taken (take n kinds) r
taken_front s r kinds zero = refl
taken_front s r [] (suc n) = refl
taken_front s r (k ∷ rest) (suc n) = go (k.sorts s) (taken_front s r rest n)
  where
    go : (c : Bool) → taken (take n (counted s rest)) r ≡ taken (take n rest) r → taken (take (suc n) (cond c (one_more k ∷ rest) (k ∷ counted s rest))) r ≡ (k.sorts r || taken (take n rest) r)
    go true later = refl
    go false later = ap (λ (b : Bool). k.sorts r || b) later

-- a kind of one sort alone, the first that takes it, counts the steps of that sort
pub own_steps : (kinds : List Carrier) (steps : List Step) (s : Sort) (place : ℕ) (k : Carrier) → slice_get kinds place ≡ Some k → ((r : Sort) → k.sorts r ≡ same_sort s r) → taken (take place kinds) s ≡ false
    → k.finished + count_of_sort s steps < 2 ^ 64 → slice_get (all_counted steps kinds) place ≡ Some (record { sorts = k.sorts; finished = k.finished + count_of_sort s steps })
own_steps kinds [] s place k is one first few = is ∙ ap (λ (n : ℕ). Some (record { sorts = k.sorts; finished = n })) (let same : k.finished ≡ k.finished + 0 = omega arith in same)
own_steps kinds (x ∷ rest) s place k is one first few = go (same_sort s (sort_of x)) refl
    (λ k' is' one' few'. own_steps (counted (sort_of x) kinds) rest s place k' is' one' (taken_front (sort_of x) s kinds place ∙ first) few')
  where
    go : (c : Bool) → same_sort s (sort_of x) ≡ c
        → ((k' : Carrier) → slice_get (counted (sort_of x) kinds) place ≡ Some k' → ((r : Sort) → k'.sorts r ≡ same_sort s r) → k'.finished + count_of_sort s rest < 2 ^ 64
        → slice_get (all_counted rest (counted (sort_of x) kinds)) place ≡ Some (record { sorts = k'.sorts; finished = k'.finished + count_of_sort s rest }))
        → slice_get (all_counted rest (counted (sort_of x) kinds)) place ≡ Some (record { sorts = k.sorts; finished = k.finished + cond c (count_of_sort s rest + 1) (count_of_sort s rest) })
    go true same later =
        let own : sort_of x ≡ s = sym (same_sort-true s (sort_of x) same) in
        let here : k.finished + (count_of_sort s rest + 1) < 2 ^ 64 = subst (λ (c : Bool). k.finished + cond c (count_of_sort s rest + 1) (count_of_sort s rest) < 2 ^ 64) same few in
        let tally : min (k.finished + 1) (2 ^ 64 - 1) ≡ k.finished + 1 = omega (arith, here) in
        let stands : slice_get (counted (sort_of x) kinds) place ≡ Some (record { sorts = k.sorts; finished = k.finished + 1 }) =
        counts_one (sort_of x) kinds place k is (ap k.sorts own ∙ one s ∙ same_sort-self s) (ap (λ (r : Sort). taken (take place kinds) r) own ∙ first) ∙ ap (λ (n : ℕ). Some (record { sorts = k.sorts; finished = n })) tally in
        let sum : (k.finished + 1) + count_of_sort s rest ≡ k.finished + (count_of_sort s rest + 1) = omega arith in
        later (record { sorts = k.sorts; finished = k.finished + 1 }) stands one (omega (arith, here)) ∙ ap (λ (n : ℕ). Some (record { sorts = k.sorts; finished = n })) sum
    go false other later = later k (passed_over (sort_of x) kinds place k is (one (sort_of x) ∙ other)) one (subst (λ (c : Bool). k.finished + cond c (count_of_sort s rest + 1) (count_of_sort s rest) < 2 ^ 64) other few)

-- no tally of them reaches its last value within so many steps
abbrev pub AllRoom : ℕ → List Carrier → Type 0
AllRoom n [] = Unit {0}
AllRoom n (k ∷ rest) = (k.finished + n < 2 ^ 64) × AllRoom n rest

pub room_of : (n : ℕ) (kinds : List Carrier) → All (λ k. k.finished + n < 2 ^ 64) kinds → AllRoom n kinds
room_of n [] all = tt
room_of n (k ∷ rest) all = (All-head (λ k. k.finished + n < 2 ^ 64) k rest all, room_of n rest (All-tail (λ k. k.finished + n < 2 ^ 64) k rest all))

room_less : (n : ℕ) (kinds : List Carrier) → AllRoom (n + 1) kinds → AllRoom n kinds
room_less n [] all = tt
room_less n (k ∷ rest) all = (omega (arith, all.0), room_less n rest all.1)

room_left : (n : ℕ) (s : Sort) (kinds : List Carrier) → AllRoom (n + 1) kinds → AllRoom n (counted s kinds)
room_left n s [] all = tt
room_left n s (k ∷ rest) all = go (k.sorts s) (room_left n s rest all.1)
  where
    go : (c : Bool) → AllRoom n (counted s rest) → AllRoom n (cond c (one_more k ∷ rest) (k ∷ counted s rest))
    go true later = (omega (arith, all.0), room_less n rest all.1)
    go false later = (omega (arith, all.0), later)

one_together : (n : ℕ) (s : Sort) (kinds : List Carrier) → taken kinds s ≡ true → AllRoom (n + 1) kinds → tally_of_all (counted s kinds) ≡ tally_of_all kinds + 1
one_together n s [] takes all = cc
one_together n s (k ∷ rest) takes all = go (k.sorts s) refl (λ later. one_together n s rest later all.1)
  where
    go : (c : Bool) → k.sorts s ≡ c → (taken rest s ≡ true → tally_of_all (counted s rest) ≡ tally_of_all rest + 1)
        → tally_of_all (cond c (one_more k ∷ rest) (k ∷ counted s rest)) ≡ (k.finished + tally_of_all rest) + 1
    go true is later = let room = all.0 in omega (arith, room)
    go false is later =
        let there : taken rest s ≡ true = subst (λ (c : Bool). (c || taken rest s) ≡ true) is takes in
        let more = later there in
        omega (arith, more)

-- all kinds together count all steps
pub steps_together : (steps : List Step) (kinds : List Carrier) → ((s : Sort) → taken kinds s ≡ true) → AllRoom (length steps) kinds → tally_of_all (all_counted steps kinds) ≡ tally_of_all kinds + length steps
steps_together [] kinds takes all = omega arith
steps_together (x ∷ rest) kinds takes all =
    let more : AllRoom (length rest + 1) kinds = subst (λ (n : ℕ). AllRoom n kinds) (let same : length (x ∷ rest) ≡ length rest + 1 = omega arith in same) all in
    let first = one_together (length rest) (sort_of x) kinds (takes (sort_of x)) more in
    let last = steps_together rest (counted (sort_of x) kinds) (λ s. taken_counted (sort_of x) s kinds ∙ takes s) (room_left (length rest) (sort_of x) kinds more) in
    omega (arith, first, last)

-- ---- one kind of a list

module _ {K : Type 0} (sorts : K → Sort → Bool) (finished : K → ℕ) where
  abbrev seen : List K → List Carrier
  seen kinds = seen_by sorts finished kinds

  abbrev one : K → Carrier
  one k = record { sorts = sorts k; finished = finished k }

  -- another in place of one that is seen alike
  seen_alike : (kinds : List K) (place : ℕ) (old new : K) → slice_get kinds place ≡ Some old → one new ≡ one old → seen (set kinds place new) ≡ seen kinds
  seen_alike [] place old new is same = refl
  seen_alike (k ∷ rest) zero old new is same = let here : k ≡ old = cc in ap (λ (x : Carrier). x ∷ seen rest) (same ∙ ap one (sym here))
  seen_alike (k ∷ rest) (suc place) old new is same = ap (λ (l : List Carrier). one k ∷ l) (seen_alike rest place old new is same)

  pub nothing_counted : (kinds : List K) (place : ℕ) (old new : K) → slice_get kinds place ≡ Some old → sorts new ≡ sorts old → finished new ≡ finished old → seen (set kinds place new) ≡ seen kinds
  nothing_counted kinds place old new is same tally = seen_alike kinds place old new is (ap₂ (λ (s : Sort → Bool) (n : ℕ). record { sorts = s; finished = n }) same tally)

  counts_there : (s : Sort) (kinds : List K) (place : ℕ) (old new : K) → slice_get kinds place ≡ Some old → sorts old s ≡ true → taken (take place (seen kinds)) s ≡ false → one new ≡ one_more (one old)
      → seen (set kinds place new) ≡ counted s (seen kinds)
  counts_there s [] place old new is takes first same = cc
  counts_there s (k ∷ rest) zero old new is takes first same =
      let here : k ≡ old = cc in
      let yes : sorts k s ≡ true = ap (λ (x : K). sorts x s) here ∙ takes in
      ap (λ (x : Carrier). x ∷ seen rest) (same ∙ ap (λ (x : K). one_more (one x)) (sym here)) ∙ ap (λ (c : Bool). cond c (one_more (one k) ∷ seen rest) (one k ∷ counted s (seen rest))) (sym yes)
  counts_there s (k ∷ rest) (suc place) old new is takes first same =
      let parts = or_parts (sorts k s) _ first in
      ap (λ (l : List Carrier). one k ∷ l) (counts_there s rest place old new is takes parts.1 same) ∙ ap (λ (c : Bool). cond c (one_more (one k) ∷ seen rest) (one k ∷ counted s (seen rest))) (sym parts.0)

  taker_takes : (s : Sort) (kinds : List K) (place : ℕ) (k : K) → slice_get kinds place ≡ Some k → (e : Carrier) → slice_get (seen kinds) place ≡ Some e → e ≡ one k
  taker_takes s [] place k is e seen_is = cc
  taker_takes s (x ∷ rest) zero k is e seen_is = let here : x ≡ k = cc in let there : one x ≡ e = cc in sym there ∙ ap one here
  taker_takes s (x ∷ rest) (suc place) k is e seen_is = taker_takes s rest place k is e seen_is

  -- the first that takes a sort does
  pub first_takes : (s : Sort) (kinds : List K) (place : ℕ) (k : K) → slice_get kinds place ≡ Some k → IsFirstTaker (seen kinds) s place → sorts k s ≡ true
  first_takes s kinds place k is first = ap (λ (e : Carrier). e.sorts s) (sym (taker_takes s kinds place k is first.kind first.stands)) ∙ first.takes

  pub one_counted : (s : Sort) (kinds : List K) (place : ℕ) (old new : K) → slice_get kinds place ≡ Some old → IsFirstTaker (seen kinds) s place → sorts new ≡ sorts old → finished new ≡ tally_after Finished (finished old)
      → seen (set kinds place new) ≡ counted s (seen kinds)
  one_counted s kinds place old new is first same tally = counts_there s kinds place old new is (first_takes s kinds place old is first) first.first
      (ap₂ (λ (t : Sort → Bool) (n : ℕ). record { sorts = t; finished = n }) same tally)
