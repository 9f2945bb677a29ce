use Rattle.ips_image_steps.proofs.saving.Shown.{file_seen}
use Rattle.ips_image_steps.proofs.saving.laws.saved_files_are_seen.Goals as goal

pub returns : goal.returns
returns c = λ r t emptied from good formed may is none_old none_new h. file_seen r t emptied good formed may is none_old none_new from h
