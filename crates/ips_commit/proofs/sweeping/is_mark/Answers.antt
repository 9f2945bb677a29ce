use Rattle.std.proofs.Common.{◌∙◌, ap}
use Rattle.ips_steps.specs.Private.{mark_front, begins}
use Rattle.ips_commit.proofs.Swept.{begins_is}
use Rattle.ips_commit.proofs.sweeping.is_mark.Goals as goal

pub returns : goal.returns
unfolding mark_front
returns c = c.starts_with.ensures.value ∙ begins_is mark_front c.bytes.result.now ∙ ap (begins mark_front) c.bytes.ensures.value
