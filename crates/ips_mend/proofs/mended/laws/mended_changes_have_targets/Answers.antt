use Rattle.ips_mend.proofs.mended.Drafted.{have_targets}
use Rattle.ips_mend.proofs.mended.laws.mended_changes_have_targets.Goals as goal

pub returns : goal.returns
returns c = λ want changes parts long fit. have_targets want want.keys changes parts long fit
