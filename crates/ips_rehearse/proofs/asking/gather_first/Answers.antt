use Rattle.std.proofs.Common.{◌||◌, List, map, refl, ◌∙◌, ap, arith}
use Rattle.std.proofs.lemmas.List.{take_all}
use Rattle.ips_outside.specs.Tearing.{in_set}
use Rattle.ips_steps.specs.View.{step_of}
use Rattle.ips_steps.specs.declared.step.Step.{Step}
use Rattle.ips_rehearse.specs.Asked as asked
use Rattle.ips_rehearse.proofs.Keys.{none_in}
use Rattle.ips_rehearse.proofs.Longest.{any_next, first_more}
use Rattle.ips_rehearse.proofs.asking.gather_first.Goals as goal

pub loop-step-init : goal.loop-step-init
loop-step-init c = record { given = λ q. none_in q c.new-given.result.keys c.new-given.ensures.empty; first = λ q. refl }

pub loop-step-preserved : goal.loop-step-preserved
loop-step-preserved c = record {
  given = λ q. any_next (λ s. asked.gives_mode q (step_of s)) c.args.steps.now c.loop-step.step-index c.step-item.result c.loop-step-test.true c.step-item.is
      (in_set c.loop-step.given q) (in_set c.add_given.new.given q) (c.loop-step.invariant.given q) (c.in_ok-add_given.ensures q);
  first = λ q. first_more q c.args.steps.now c.loop-step.step-index c.step-item.result c.loop-step-test.true c.step-item.is
      (in_set c.args.first.now q) (in_set c.loop-step.given q) (in_set c.loop-step.first q) (in_set c.add_first.new.first q) (c.loop-step.invariant.given q) (c.loop-step.invariant.first q) (c.in_ok-add_first.ensures q);
}

pub returns : goal.returns
returns c = λ q.
    c.loop-step.invariant.first q ∙ ap (λ (l : List Step). asked.works_first q (map step_of l) || in_set c.args.first.now q) (take_all c.loop-step.step-index c.args.steps.now (omega (arith, c.loop-step-test.false)))
