-- A change that is decided on tells its steps.
use Rattle.std.proofs.Common.{◌≡◌, Ok, map, sym, ap, ◌∙◌, subst}
use Rattle.std.specs.Prelude.{IfOk}
use Rattle.std.specs.declared.vec.Vec.{Vec}
use Rattle.std.specs.declared.alloc.Global.{Global}
use Rattle.ips_text.specs.declared.refusal.Or.TheVariants.{Bad}
use Rattle.ips_outside.specs.Image.{Image}
use Rattle.ips_steps.specs.declared.step.Step.{Step}
use Rattle.ips_steps.specs.View.{step_of}
use Rattle.ips_plan.specs.declared.created.fault.CreateFault.{CreateFault}
use Rattle.ips_plan.specs.declared.created.fault.CreateFault.TheVariants as create
use Rattle.ips_report.specs.declared.outcome.Outcome.{Outcome}
use Rattle.ips_report.specs.declared.outcome.Outcome.TheVariants.{Done}
use Rattle.ips_tell.specs.refusals.Told.{Answer}
use Rattle.ips_run.specs.declared.operation.Decision.{Decision}
use Rattle.ips_tell.specs.told.Laying.{TellsItsSteps, no_counts, sorts_among}
use Rattle.ips_operations.specs.creating.Creations.{Creation}
use Rattle.ips_operations.specs.creating.Decides.{Decides, Exists, Unmade, Made}
use Rattle.ips_operations.specs.creating.Told.{unmade_told}

unmade : (why : CreateFault) → IfOk (unmade_told (Bad why)) TellsItsSteps
unmade create.FolderFault = tt
unmade other = tt

decided : (r : Answer) (d : Decision Outcome) → IfOk r TellsItsSteps → r ≡ Ok d → TellsItsSteps d
decided r d refuses is = subst (λ (r : Answer). IfOk r TellsItsSteps) is refuses

pub creation_tells : (a : Creation) (t : Image) (d : Decision Outcome) → Decides a t d → TellsItsSteps d
creation_tells a t d (Exists stands) = tt
creation_tells a t d (Unmade why free is told) = decided (unmade_told (Bad why)) d (unmade why) told
creation_tells a t d (Made s e c free begun steps within is) = (no_counts, is.licenses, is.told ∙ ap (λ (v : Vec Step Global). Done no_counts (sorts_among (map step_of v.items)) is.licenses) (sym is.steps))
