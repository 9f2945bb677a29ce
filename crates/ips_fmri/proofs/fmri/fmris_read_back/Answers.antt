use Rattle.std.proofs.Common.{subst, List, ℕ}
use Rattle.ips_fmri.specs.Fmri.{fmri_text}
use Rattle.ips_fmri.proofs.Versions.{written_one}
use Rattle.ips_fmri.proofs.Readings.{judges_fmri, fmri_written, WritesName}
use Rattle.ips_fmri.proofs.fmri.fmris_read_back.Goals as goal

pub returns-clause-one : goal.returns-clause-one
returns-clause-one c = λ f g hf hg e. written_one judges_fmri (fmri_text g) f g (subst (λ (t : List ℕ). WritesName f t) e (fmri_written f hf)) (fmri_written g hg)

pub returns-clause-back : goal.returns-clause-back
returns-clause-back c = λ f h. judges_fmri.only (fmri_text f) f (fmri_written f h)
