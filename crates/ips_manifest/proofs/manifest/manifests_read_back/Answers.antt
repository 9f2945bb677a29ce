use Rattle.ips_manifest.proofs.Laws.{text_one, text_means}
use Rattle.ips_manifest.proofs.OnLine.{manifest_stands}
use Rattle.ips_manifest.proofs.manifest.manifests_read_back.Goals as goal

pub returns-clause-one : goal.returns-clause-one
returns-clause-one c = text_one c.actions_read_back.ensures.one

pub returns-clause-back : goal.returns-clause-back
returns-clause-back c = text_means c.actions_read_back.ensures.back 1

pub returns-clause-stand : goal.returns-clause-stand
returns-clause-stand c = manifest_stands

pub returns-clause-again : goal.returns-clause-again
returns-clause-again c = λ bytes lines is. text_means c.actions_read_back.ensures.back 1 lines (manifest_stands bytes lines is)
