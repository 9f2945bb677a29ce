use Rattle.ips_image_steps.proofs.staged_plans.Moments.{moment_named}
use Rattle.ips_image_steps.proofs.staged_plans.laws.moments_name_folders.Goals as goal

pub returns : goal.returns
returns c = λ moment text is. moment_named moment text is
