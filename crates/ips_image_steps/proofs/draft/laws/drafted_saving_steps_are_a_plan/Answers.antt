use Rattle.std.proofs.Common.{◌++◌, List, ap, ◌∙◌}
use Rattle.ips_after.specs.Planned.{plan_order}
use Rattle.ips_after.specs.Salvage.{change_saving}
use Rattle.ips_change.specs.Told.{naming}
use Rattle.ips_emit.specs.Emitted.{Turn, contents_in, steps_in}
use Rattle.ips_emit.proofs.Adding.{contents_by, steps_by}
use Rattle.ips_image_steps.proofs.draft.Saving.{turns_behind}
use Rattle.ips_image_steps.proofs.draft.laws.drafted_saving_steps_are_a_plan.Goals as goal

pub returns : goal.returns
returns c = record {
  steps = λ r t a asides provenances e good formed own is list may emitted.
      emitted.steps ∙ ap (λ (l : List Turn). steps_in 0 l) (turns_behind r t a asides good formed own is list may) ∙ steps_by (change_saving (naming r) t a) 0 (asides ++ plan_order (naming r) t);
  staged = λ r t a asides provenances e good formed own is list may emitted.
      emitted.staged ∙ ap (λ (l : List Turn). contents_in l) (turns_behind r t a asides good formed own is list may) ∙ contents_by (change_saving (naming r) t a) (asides ++ plan_order (naming r) t);
}
