use Rattle.std.proofs.Common.{◌≡◌, ◌<◌, ◌≤◌, ℕ, ◌+◌, ◌^◌, length, true, false, [], ◌∷◌, ◌++◌, List, map, take, take_all, refl, sym, ap, ◌∙◌, subst, arith}
use Rattle.std.proofs.lemmas.List.{length-map, length-take-le}
use Rattle.ips_text.proofs.Lists.{map_item}
use Rattle.ips_steps.specs.declared.step.Step as program
use Rattle.ips_steps.specs.Journal.{IsJournal, numbered}
use Rattle.ips_steps.specs.View.{step_of}
use Rattle.ips_journal.specs.Reading.{puts_in}
use Rattle.ips_journal.proofs.Journals.{journal_more, puts_more}
use Rattle.ips_emit.proofs.Listed.{next_listed}
use Rattle.ips_emit.proofs.listing.is_journal.Goals as goal

pub loop-step-preserved : goal.loop-step-preserved
loop-step-preserved c =
    let steps = c.args.steps.now in
    let i = c.loop-step.step-index in
    let s = step_of c.step-item.result in
    let front = map step_of (take i steps) in
    let more = map_item step_of steps i c.step-item.result c.loop-step-test.true c.step-item.is in
    let listed = c.may_be_listed.ensures.0 c.if-not-may_be_listed.false in
    let long : length front ≡ i = length-map (take i steps) step_of ∙ length-take-le i steps (omega (arith, c.loop-step-test.true)) in
    let few : length front + 1 < 2 ^ 64 = omega (arith, long, c.loop-step-test.true, c.well_formed.0) in
    record {
      journal = subst IsJournal (sym more) (journal_more front s c.loop-step.invariant.journal listed.0 (ap (λ (n : ℕ). numbered n (s ∷ [])) (sym c.loop-step.invariant.puts) ∙ listed.1) few);
      puts = omega (arith, c.loop-step.invariant.puts, c.puts_of-puts.ensures.puts, puts_more front (s ∷ []), ap puts_in more);
      few = omega (arith, c.loop-step.invariant.few, c.puts_of-puts.ensures.one);
    }

pub returns : goal.returns
returns c = (λ yes. subst (λ (l : List program.Step). IsJournal (map step_of l)) (take_all c.loop-step.step-index c.args.steps.now (omega (arith, c.loop-step-test.false))) c.loop-step.invariant.journal, λ journal. refl)

pub returns-then-not-may_be_listed : goal.returns-then-not-may_be_listed
returns-then-not-may_be_listed c =
    let steps = c.args.steps.now in
    let i = c.loop-step.step-index in
    let s = step_of c.step-item.result in
    let more = map_item step_of steps i c.step-item.result c.loop-step-test.true c.step-item.is in (
      λ yes. absurd cc,
      λ journal.
          let next = next_listed steps i s more journal in
          sym c.if-not-may_be_listed.true ∙ c.may_be_listed.ensures.1 (next.safe, ap (λ (n : ℕ). numbered n (s ∷ [])) c.loop-step.invariant.puts ∙ next.number),
    )
