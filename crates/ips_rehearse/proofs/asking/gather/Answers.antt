use Rattle.std.proofs.Common.{◌||◌, List, refl, ◌∙◌, ap, arith}
use Rattle.std.specs.List.{list_any}
use Rattle.std.proofs.lemmas.List.{take_all}
use Rattle.ips_outside.specs.Tearing.{in_set}
use Rattle.ips_steps.specs.View.{step_of}
use Rattle.ips_steps.specs.declared.step.Step.{Step}
use Rattle.ips_rehearse.specs.Asked as asked
use Rattle.ips_rehearse.proofs.Longest.{any_more}
use Rattle.ips_rehearse.proofs.asking.gather.Goals as goal

pub loop-step-init : goal.loop-step-init
loop-step-init c = record { worked = λ q. refl; passed = λ q. refl; made = λ q. refl }

pub loop-step-preserved : goal.loop-step-preserved
loop-step-preserved c = record {
  worked = λ q. any_more (λ s. asked.works_in q (step_of s)) c.args.steps.now c.loop-step.step-index c.step-item.result c.loop-step-test.true c.step-item.is
      (in_set c.args.worked.now q) (in_set c.loop-step.worked q) (in_set c.add_worked.new.worked q) (c.loop-step.invariant.worked q) (c.in_ok-add_worked.ensures q);
  passed = λ q. any_more (λ s. asked.goes_through q (step_of s)) c.args.steps.now c.loop-step.step-index c.step-item.result c.loop-step-test.true c.step-item.is
      (in_set c.args.passed.now q) (in_set c.loop-step.passed q) (in_set c.add_passed.new.passed q) (c.loop-step.invariant.passed q) (c.in_ok-add_passed.ensures q);
  made = λ q. any_more (λ s. asked.makes_dir q (step_of s)) c.args.steps.now c.loop-step.step-index c.step-item.result c.loop-step-test.true c.step-item.is
      (in_set c.args.made.now q) (in_set c.loop-step.made q) (in_set c.add_made.new.made q) (c.loop-step.invariant.made q) (c.in_ok-add_made.ensures q);
}

pub returns-clause-worked : goal.returns-clause-worked
returns-clause-worked c = λ q.
    c.loop-step.invariant.worked q ∙ ap (λ (l : List Step). list_any (λ s. asked.works_in q (step_of s)) l || in_set c.args.worked.now q) (take_all c.loop-step.step-index c.args.steps.now (omega (arith, c.loop-step-test.false)))

pub returns-clause-made : goal.returns-clause-made
returns-clause-made c = λ q.
    c.loop-step.invariant.made q ∙ ap (λ (l : List Step). list_any (λ s. asked.makes_dir q (step_of s)) l || in_set c.args.made.now q) (take_all c.loop-step.step-index c.args.steps.now (omega (arith, c.loop-step-test.false)))

pub returns-clause-passed : goal.returns-clause-passed
returns-clause-passed c = λ q.
    c.loop-step.invariant.passed q ∙ ap (λ (l : List Step). list_any (λ s. asked.goes_through q (step_of s)) l || in_set c.args.passed.now q) (take_all c.loop-step.step-index c.args.steps.now (omega (arith, c.loop-step-test.false)))
