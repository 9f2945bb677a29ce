use Rattle.std.proofs.Common.{List, subst, arith}
use Rattle.std.proofs.lemmas.List.{take_all}
use Rattle.ips_steps.specs.View.{step_of}
use Rattle.ips_steps.specs.declared.step.Step.{Step}
use Rattle.ips_rehearse.specs.Asked as asked
use Rattle.ips_rehearse.specs.Asked.{IsLongest}
use Rattle.ips_rehearse.proofs.Longest.{longest_more, longest_none}
use Rattle.ips_rehearse.proofs.asking.longest_target.Goals as goal

pub loop-step-init : goal.loop-step-init
loop-step-init c = longest_none (λ s. asked.target_of (step_of s))

pub loop-step-preserved : goal.loop-step-preserved
loop-step-preserved c =
    longest_more (λ s. asked.target_of (step_of s)) c.args.steps.now c.loop-step.step-index c.step-item.result c.loop-step-test.true c.step-item.is
    c.loop-step.longest.now c.target.result.now c.longer-longest.result.now c.target.ensures c.longer-longest.ensures c.loop-step.invariant

pub returns : goal.returns
returns c = subst (λ (l : List Step). IsLongest (λ s. asked.target_of (step_of s)) l c.loop-step.longest.now) (take_all c.loop-step.step-index c.args.steps.now (omega (arith, c.loop-step-test.false))) c.loop-step.invariant
