use Rattle.std.proofs.Common.{refl}
use Rattle.ips_fmri.specs.Version.{version_text}
use Rattle.ips_fmri.proofs.Versions.{judges_version, written_one}
use Rattle.ips_fmri.proofs.version.versions_read_back.Goals as goal

pub returns-clause-one : goal.returns-clause-one
returns-clause-one c = λ v w hv hw e. written_one judges_version (version_text v) v w (hv, refl) (hw, e)

pub returns-clause-back : goal.returns-clause-back
returns-clause-back c = λ v h. judges_version.only (version_text v) v (h, refl)
