use Rattle.ips_action.specs.Meaning.{Means, IsFirstFault}
use Rattle.ips_manifest.specs.Manifest.{line_at}
use Rattle.ips_manifest.proofs.Bounds.{fault_within}
use Rattle.ips_manifest.proofs.manifest.faults_have_lines.Goals as goal

pub returns : goal.returns
returns c = λ bytes fault is. fault_within Means line_at IsFirstFault bytes fault is
