use Rattle.ips_image_steps.proofs.draft.Targets.{all_targets}
use Rattle.ips_image_steps.proofs.draft.laws.changes_have_targets.Goals as goal

pub returns : goal.returns
returns c = λ r rows changes proper of long fit. all_targets r rows changes proper of long fit
