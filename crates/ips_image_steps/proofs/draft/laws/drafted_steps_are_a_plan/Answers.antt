use Rattle.std.proofs.Common.{◌∙◌}
use Rattle.ips_after.specs.After.{change_after}
use Rattle.ips_after.specs.Planned.{plan_order}
use Rattle.ips_change.specs.Told.{naming}
use Rattle.ips_emit.proofs.Adding.{contents_by, steps_by}
use Rattle.ips_image_steps.proofs.draft.laws.drafted_steps_are_a_plan.Goals as goal

pub returns : goal.returns
returns c = record {
  steps = λ r t emptied provenances e is. is.steps ∙ steps_by (change_after (naming r) t emptied) 0 (plan_order (naming r) t);
  staged = λ r t emptied provenances e is. is.staged ∙ contents_by (change_after (naming r) t emptied) (plan_order (naming r) t);
}
