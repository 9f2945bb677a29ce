use Rattle.std.proofs.Common.{[], ◌∷◌, List, map, take, take_all, ◌∙◌, ap, arith}
use Rattle.ips_text.proofs.Lists.{map_item}
use Rattle.ips_steps.specs.declared.step.Step as program
use Rattle.ips_steps.specs.View.{step_of}
use Rattle.ips_journal.specs.Reading.{puts_in}
use Rattle.ips_journal.proofs.Journals.{puts_more}
use Rattle.ips_emit.proofs.listing.count_puts.Goals as goal

pub loop-step-preserved : goal.loop-step-preserved
loop-step-preserved c =
    let steps = c.args.steps.now in
    let i = c.loop-step.step-index in
    let s = step_of c.step-item.result in
    let more = map_item step_of steps i c.step-item.result c.loop-step-test.true c.step-item.is in
    record {
      count = omega (arith, c.loop-step.invariant.count, c.puts_of-count.ensures.puts, puts_more (map step_of (take i steps)) (s ∷ []), ap puts_in more);
      few = omega (arith, c.loop-step.invariant.few, c.puts_of-count.ensures.one);
    }

pub returns : goal.returns
returns c = c.loop-step.invariant.count ∙ ap (λ (l : List program.Step). puts_in (map step_of l)) (take_all c.loop-step.step-index c.args.steps.now (omega (arith, c.loop-step-test.false)))
