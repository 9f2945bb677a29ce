use Rattle.std.proofs.Common.{inl, inr, refl}
use Rattle.ips_outside.proofs.Faults.{cause_as}
use Rattle.ips_outside.proofs.Reading.{answered}
use Rattle.ips_steps.proofs.Lists.{clash}
use Rattle.ips_run.specs.Ending.{is_folder_fault}
use Rattle.ips_run.proofs.Told.{unrun_folder}
use Rattle.ips_run.proofs.carrying.given_up.Goals as goal

pub returns-in-Ok-clause-unrun : goal.returns-in-Ok-clause-unrun
returns-in-Ok-clause-unrun g c = inl c.unrun.ensures

pub returns-in-Ok-clause-folder : goal.returns-in-Ok-clause-folder
returns-in-Ok-clause-folder g c = cause_as _ _ _ _ c.discard.ensures.cause (λ is. absurd (answered c.discard.result _ c.in-Ok.is is)) (λ is. absurd (clash (is_folder_fault c.unrun.result) is (unrun_folder _ _ _ _ c.unrun.ensures)))

pub returns-in-Err-clause-unrun : goal.returns-in-Err-clause-unrun
returns-in-Err-clause-unrun g c = inr refl
