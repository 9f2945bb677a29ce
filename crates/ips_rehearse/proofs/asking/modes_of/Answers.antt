use Rattle.std.proofs.Common.{◌∙◌, ap, arith}
use Rattle.std.specs.List.{list_any}
use Rattle.std.proofs.lemmas.List.{take_all}
use Rattle.ips_outside.specs.Tearing.{in_set}
use Rattle.ips_steps.specs.View.{step_of}
use Rattle.ips_rehearse.specs.Asked as asked
use Rattle.ips_rehearse.specs.Tried.{in_modes}
use Rattle.ips_rehearse.proofs.Longest.{any_next, proper_at}
use Rattle.ips_rehearse.proofs.asking.modes_of.Goals as goal

pub add_modes-requires : goal.add_modes-requires
add_modes-requires c = proper_at c.args.steps.now c.loop-step.step-index c.step-item.result c.requires c.loop-step-test.true c.step-item.is

pub loop-step-preserved : goal.loop-step-preserved
loop-step-preserved c = record {
  worked = λ m. any_next (λ s. asked.gives_worked (in_set c.args.worked.now) (in_set c.args.passed.now) m (step_of s)) c.args.steps.now c.loop-step.step-index c.step-item.result c.loop-step-test.true c.step-item.is
      (in_modes c.loop-step.modes.worked.has m) (in_modes c.add_modes.new.modes.worked.has m) (c.loop-step.invariant.worked m) (c.add_modes.ensures.worked m);
  dirs = λ m. any_next (λ s. asked.gives_dir m (step_of s)) c.args.steps.now c.loop-step.step-index c.step-item.result c.loop-step-test.true c.step-item.is
      (in_modes c.loop-step.modes.dirs.has m) (in_modes c.add_modes.new.modes.dirs.has m) (c.loop-step.invariant.dirs m) (c.add_modes.ensures.dirs m);
  files = λ m. any_next (λ s. asked.gives_file m (step_of s)) c.args.steps.now c.loop-step.step-index c.step-item.result c.loop-step-test.true c.step-item.is
      (in_modes c.loop-step.modes.files.has m) (in_modes c.add_modes.new.modes.files.has m) (c.loop-step.invariant.files m) (c.add_modes.ensures.files m);
}

pub returns-clause-worked : goal.returns-clause-worked
returns-clause-worked c = λ m.
    c.loop-step.invariant.worked m ∙ ap (list_any (λ s. asked.gives_worked (in_set c.args.worked.now) (in_set c.args.passed.now) m (step_of s))) (take_all c.loop-step.step-index c.args.steps.now (omega (arith, c.loop-step-test.false)))

pub returns-clause-dirs : goal.returns-clause-dirs
returns-clause-dirs c = λ m.
    c.loop-step.invariant.dirs m ∙ ap (list_any (λ s. asked.gives_dir m (step_of s))) (take_all c.loop-step.step-index c.args.steps.now (omega (arith, c.loop-step-test.false)))

pub returns-clause-files : goal.returns-clause-files
returns-clause-files c = λ m.
    c.loop-step.invariant.files m ∙ ap (list_any (λ s. asked.gives_file m (step_of s))) (take_all c.loop-step.step-index c.args.steps.now (omega (arith, c.loop-step-test.false)))
