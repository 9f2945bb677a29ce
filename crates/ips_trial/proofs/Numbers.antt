-- Numbers of steps, and how far the tallies rise with them.
use Rattle.std.proofs.Common.{◌≡◌, ℕ, suc, ◌+◌, ◌*◌, ◌-◌, ◌^◌, ◌<◌, ◌≤◌, min, cond, List, [], ◌∷◌, ◌++◌, length, IsTrue, refl, sym, ap, ap₂, subst, ◌∙◌, arith}
use Rattle.std.specs.List.{All}
use Rattle.std.proofs.lemmas.List.{length-append}
use Rattle.ips_steps.specs.Steps.{Step}
use Rattle.ips_steps.specs.View.{sort_of}
use Rattle.ips_steps.specs.declared.step.Sort.{Sort}
use Rattle.ips_steps.specs.declared.step.Sort.TheVariants as sort
use Rattle.ips_kinds.specs.Acts.{same_sort}
use Rattle.ips_kinds.specs.Tallies.{Carrier, all_counted, counted, taken, tally_of_all}
use Rattle.ips_kinds.proofs.Counting.{taken_stays, room_of, steps_together}
use Rattle.ips_commit.proofs.Going.{counted_on}
use Rattle.ips_tell.specs.told.Laying.{sorts_among}
use Rattle.ips_trial.specs.Carried.{AreFinished, number_in}
use Rattle.ips_text.specs.declared.text.Text.{Text}
use Rattle.ips_report.specs.declared.outcome.Outcome.TheVariants.{Shown}
use Rattle.ips_trial.specs.Counted.{HaveFinished}
use Rattle.ips_trial.specs.Generated.{IsTried, Summed, summary_text}

-- one more where the sorts are one
abbrev more : Sort → Sort → ℕ → ℕ
more one of n = cond (same_sort one of) (n + 1) n

-- the steps of all sorts are all steps
all_sorts : (steps : List Step) → (let s = sorts_among steps in s.gone + s.fresh + s.mode + s.put + s.link + s.hard) ≡ length steps
all_sorts [] = refl
all_sorts (x ∷ steps) = go (sort_of x) (all_sorts steps)
  where
    go : (of : Sort) → (let s = sorts_among steps in s.gone + s.fresh + s.mode + s.put + s.link + s.hard) ≡ length steps
        → (let s = sorts_among steps in more sort.Gone of s.gone + more sort.Fresh of s.fresh + more sort.Mode of s.mode + more sort.Put of s.put + more sort.Link of s.link + more sort.Hard of s.hard) ≡ suc (length steps)
    go sort.Gone rest = omega (arith, rest)
    go sort.Fresh rest = omega (arith, rest)
    go sort.Mode rest = omega (arith, rest)
    go sort.Put rest = omega (arith, rest)
    go sort.Link rest = omega (arith, rest)
    go sort.Hard rest = omega (arith, rest)

pub number_among : (steps : List Step) → number_in (sorts_among steps) ≡ min (length steps) (2 ^ 64 - 1)
number_among steps = ap (λ (n : ℕ). min n (2 ^ 64 - 1)) (all_sorts steps)

-- ---- steps behind others

-- each sort is still taken
pub still_taken : (count : ℕ) (old new : List Carrier) → AreFinished count old new → ((s : Sort) → IsTrue (taken old s)) → (s : Sort) → IsTrue (taken new s)
still_taken count old new are takes s = subst (λ (kinds : List Carrier). IsTrue (taken kinds s)) (sym are.counted) (taken_stays are.steps s old ∙ takes s)

exact : (count many : ℕ) → count ≡ min many (2 ^ 64 - 1) → count ≤ 10000 → many ≡ count
exact count many is few = omega (arith, is, few)

-- few steps and few others are finished together
pub both_finished : (first second : ℕ) (old mid new : List Carrier) → AreFinished first old mid → AreFinished second mid new → first ≤ 10000 → second ≤ 10000 → ((s : Sort) → IsTrue (taken old s))
    → HaveFinished (first + second) old new
both_finished first second old mid new a b few_first few_second takes = λ room.
    let steps = a.steps ++ b.steps in
    let many : length steps ≡ first + second = length-append a.steps b.steps ∙ ap₂ (λ (x y : ℕ). x + y) (exact first (length a.steps) a.many few_first) (exact second (length b.steps) b.many few_second) in
    let is : new ≡ all_counted steps old = b.counted ∙ ap (all_counted b.steps) a.counted ∙ sym (counted_on a.steps b.steps old) in
    ap tally_of_all is ∙ subst (λ (n : ℕ). tally_of_all (all_counted steps old) ≡ tally_of_all old + n) many
    (steps_together steps old takes (room_of (length steps) old (subst (λ (n : ℕ). All (λ k. k.finished + n < 2 ^ 64) old) (sym many) room)))

-- A summary of these numbers is that of a trial, where the image was made and the packages were installed with so many steps.
pub summed : (n made packages steps findings : ℕ) (old mid new last : List Carrier) (text : Text) → made ≡ 10 → packages ≡ n + 1 → steps ≡ 3 * n + 4 → findings ≡ 0 → n ≤ 2000 → AreFinished made old mid → AreFinished steps mid new → last ≡ new
    → ((s : Sort) → IsTrue (taken old s)) → text ≡ summary_text n packages steps findings → IsTried n old last (Shown text)
summed n made packages steps findings old mid new last text ten one three none few first second same takes is =
    let all : HaveFinished (made + steps) old new = both_finished made steps old mid new first second (omega (arith, ten)) (omega (arith, three, few)) takes in
    let sum : made + steps ≡ 3 * n + 14 = omega (arith, ten, three) in
    let finished : HaveFinished (3 * n + 14) old last = subst (λ (l : List Carrier). HaveFinished (3 * n + 14) old l) (sym same) (subst (λ (k : ℕ). HaveFinished k old new) sum all) in
    let told : text ≡ summary_text n (n + 1) (3 * n + 4) 0 = is ∙ ap (λ k. summary_text n k steps findings) one ∙ ap₂ (λ k l. summary_text n (n + 1) k l) three none in
    subst (λ (t : Text). IsTried n old last (Shown t)) (sym told) (Summed finished)
