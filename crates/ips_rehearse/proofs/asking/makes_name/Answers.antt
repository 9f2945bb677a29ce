use Rattle.std.proofs.Common.{sym, ◌∙◌, ap, arith}
use Rattle.std.specs.List.{list_any}
use Rattle.std.proofs.lemmas.List.{take_all}
use Rattle.ips_steps.specs.View.{step_of}
use Rattle.ips_rehearse.specs.Asked as asked
use Rattle.ips_rehearse.proofs.Longest.{none_next, some_here}
use Rattle.ips_rehearse.proofs.asking.makes_name.Goals as goal

pub returns-then-is_name : goal.returns-then-is_name
returns-then-is_name c =
    sym (some_here (λ s. asked.makes_name (step_of s)) c.args.steps.now c.loop-step.step-index c.step-item.result c.loop-step-test.true c.step-item.is (sym c.is_name.ensures ∙ c.if-is_name.true))

pub loop-step-preserved : goal.loop-step-preserved
loop-step-preserved c =
    none_next (λ s. asked.makes_name (step_of s)) c.args.steps.now c.loop-step.step-index c.step-item.result c.loop-step-test.true c.step-item.is c.loop-step.invariant (sym c.is_name.ensures ∙ c.if-is_name.false)

pub returns : goal.returns
returns c = sym (ap (list_any (λ s. asked.makes_name (step_of s))) (sym (take_all c.loop-step.step-index c.args.steps.now (omega (arith, c.loop-step-test.false)))) ∙ c.loop-step.invariant)
