use Rattle.ips_image_steps.proofs.staged_plans.Staging.{image_after, stages}
use Rattle.ips_image_steps.proofs.staged_plans.laws.staged_plans_mean_the_image_after.Goals as goal

pub returns : goal.returns
returns c = record {
  stages = λ moment r h e steps good formed lists shut. stages moment r h e steps good formed lists shut;
  means = λ moment r h e publisher repository contents steps good formed names same are. image_after moment r h e steps good formed publisher repository contents names same are;
}
