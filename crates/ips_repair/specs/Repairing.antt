-- The steps of a repair, or why there are none.
use Rattle.std.specs.Prelude.{◌≡◌, ℕ, Bool, IsTrue, List, map, Some, None, Result, Err, IfOk}
use Rattle.ips_text.specs.Reading.{IfBad}
use Rattle.ips_text.specs.declared.refusal.Or.{Or}
use Rattle.ips_text.specs.declared.refusal.Or.TheVariants.{Bad}
use Rattle.ips_outside.specs.Image.{Image}
use Rattle.ips_outside.specs.Outside.{Outside, Reads}
use Rattle.ips_steps.specs.View.{step_of}
use Rattle.ips_moment.specs.Moment.{IsMomentText}
use Rattle.ips_meaning.specs.declared.entry.Entry.{Entry}
use Rattle.ips_after.specs.Repaired.{request_of}
use Rattle.ips_after.specs.Request.{Over, Request}
use Rattle.ips_change.specs.wanted.Named.{is_payload_of}
use Rattle.ips_due.specs.Due.{IsOverOf}
use Rattle.ips_request_due.specs.repairs.Repairing.{repair_between, repair_due}
use Rattle.ips_emit.specs.declared.emitting.Emitted.{Emitted}
use Rattle.ips_image_steps.specs.Answers.{CanBeListed, HasSteps, IsHindered}
use Rattle.ips_plan_limits.specs.Limits.{first_excess}
use Rattle.ips_plan_limits.specs.declared.limits.Excess.{Excess}
use Rattle.ips_repair.specs.declared.fault.RepairFault.{RepairFault}
use Rattle.ips_repair.specs.declared.fault.RepairFault.TheVariants as fault

-- The request that repairs the image by these entries, in which records say this.
abbrev pub repair_request : List (List ℕ × Entry) → (List ℕ → List ℕ) → Over → Image → Request
repair_request want bytes over t = request_of (repair_between want bytes is_payload_of over) t

-- This is what records say over the image behind a repair that leaves this history, whatever the bytes of payloads.
abbrev pub SaysHistory : List (List ℕ) → Image → Over → Type 0
SaysHistory history t over = (bytes : List ℕ → List ℕ) → IsOverOf bytes is_payload_of (repair_due history) t over

-- These are the steps over the image, at the moment of this text, of the repair by these entries that leaves this history; they are the same whatever the bytes of
-- payloads.
pub record AreStepsToRepair (text : List ℕ) (history : List (List ℕ)) (want : List (List ℕ × Entry)) (t : Image) (e : Emitted) : Type 0 where
  pub over : Over
  pub says : SaysHistory history t over
  pub steps : (bytes : List ℕ → List ℕ) → HasSteps text (repair_request want bytes over t) t e

-- The path is the first at which that repair can't be carried out.
pub record HindersRepair (text : List ℕ) (history : List (List ℕ)) (want : List (List ℕ × Entry)) (t : Image) (p : List ℕ) : Type 0 where
  pub over : Over
  pub says : SaysHistory history t over
  pub hindered : (bytes : List ℕ → List ℕ) → IsHindered text (repair_request want bytes over t) t p

-- The steps are too many, or write too many bytes.
pub record AreTooLarge (told : Bool) (t : Image) (text : List ℕ) (history : List (List ℕ)) (want : List (List ℕ × Entry)) (excess : Excess) : Type 0 where
  pub emitted : Emitted
  pub lists : CanBeListed emitted
  pub steps : IsTrue told → AreStepsToRepair text history want t emitted
  pub beyond : first_excess (map step_of emitted.steps.items) emitted.staged.items ≡ Some excess

-- Why there are no steps; each cause stands where those tested before it don't. That a call failed is told of the folder.
abbrev pub ComesOfRepair : Bool → Image → List ℕ → List (List ℕ) → List (List ℕ × Entry) → RepairFault → Type 0
ComesOfRepair told t text history want (fault.Unmovable path) = IsTrue told → HindersRepair text history want t path.bytes
ComesOfRepair told t text history want (fault.TooLarge excess) = AreTooLarge told t text history want excess
ComesOfRepair told t text history want fault.FolderFault = Unit {0}

-- The repair at the moment of this text is planned: its steps are answered, which a journal can list and which are within the limits, or the cause for which there are
-- none; the folder is only looked at.
pub record PlansRepair {F : Type 0} (o : Outside F) (text : List ℕ) (history : List (List ℕ)) (want : List (List ℕ × Entry)) (old new : F) (result : Result Emitted (Or RepairFault)) : Type 0 where
  pub lists : IfOk result CanBeListed
  pub within : IfOk result (λ e. first_excess (map step_of e.steps.items) e.staged.items ≡ None)
  pub repaired : IsTrue (o.tells old) → IfOk result (AreStepsToRepair text history want (o.state old).held)
  pub refused : IfBad result (ComesOfRepair (o.tells old) (o.state old).held text history want)
  pub reads : Reads o old new (result ≡ Err (Bad fault.FolderFault))

-- The fault tells that the repair can't be carried out at this path.
abbrev pub IsUnmovable : List ℕ → RepairFault → Type 0
IsUnmovable p (fault.Unmovable path) = path.bytes ≡ p
IsUnmovable p (fault.TooLarge excess) = ⊥
IsUnmovable p fault.FolderFault = ⊥

-- ---- at a moment

-- These are the steps of the repair at this moment.
pub record AreRepairSteps (moment : ℕ) (history : List (List ℕ)) (want : List (List ℕ × Entry)) (t : Image) (e : Emitted) : Type 0 where
  pub text : List ℕ
  pub is_text : IsMomentText moment text
  pub are : AreStepsToRepair text history want t e

-- Why there are none at this moment.
pub record ComesOfRepairAt (told : Bool) (t : Image) (moment : ℕ) (history : List (List ℕ)) (want : List (List ℕ × Entry)) (why : RepairFault) : Type 0 where
  pub text : List ℕ
  pub is_text : IsMomentText moment text
  pub comes : ComesOfRepair told t text history want why
