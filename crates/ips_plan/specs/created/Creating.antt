-- The steps that make an image, or why there are none.
use Rattle.std.specs.Prelude.{◌≡◌, ℕ, Bool, IsTrue, IsFalse, List, map, Some}
use Rattle.ips_outside.specs.Image.{Image}
use Rattle.ips_steps.specs.View.{step_of}
use Rattle.ips_state.specs.declared.state.State.{State}
use Rattle.ips_state.specs.State.{Recorded, recorded}
use Rattle.ips_moment.specs.Moment.{IsMomentText}
use Rattle.ips_meaning.specs.declared.entry.Entry.{Entry}
use Rattle.ips_after.specs.Request.{Over, Request}
use Rattle.ips_change.specs.wanted.Named.{is_payload_of}
use Rattle.ips_due.specs.Asked.{request_between}
use Rattle.ips_due.specs.Delivered.{creation_due}
use Rattle.ips_due.specs.Due.{IsOverOf}
use Rattle.ips_emit.specs.declared.emitting.Emitted.{Emitted}
use Rattle.ips_image_steps.specs.Answers.{CanBeListed, HasSteps}
use Rattle.ips_plan.specs.image_plan.Meaning.{StateMeans}
use Rattle.ips_plan_limits.specs.Limits.{first_excess}
use Rattle.ips_plan_limits.specs.declared.limits.Excess.{Excess}
use Rattle.ips_plan.specs.declared.created.fault.CreateFault.{CreateFault}
use Rattle.ips_plan.specs.declared.created.fault.CreateFault.TheVariants as fault

-- The request that makes an image: what no packages mean was wanted and is, and records say what is due.
abbrev pub creation_request : List (List ℕ × Entry) → (List ℕ → List ℕ) → Over → Request
creation_request want bytes over = request_between want want bytes is_payload_of over

-- This is what records say over the image where one is made with these, whatever the bytes of payloads.
abbrev pub SaysFirst : Recorded → Image → Over → Type 0
SaysFirst new t over = (bytes : List ℕ → List ℕ) → IsOverOf bytes is_payload_of (creation_due new) t over

-- These are the steps over the image, at the moment of this text, of the request that makes one with these records, where no packages mean this; they are the same
-- whatever the bytes of payloads.
pub record AreStepsToMake (text : List ℕ) (new : Recorded) (want : List (List ℕ × Entry)) (t : Image) (e : Emitted) : Type 0 where
  pub over : Over
  pub says : SaysFirst new t over
  pub steps : (bytes : List ℕ → List ℕ) → HasSteps text (creation_request want bytes over) t e

-- The steps are too many, or write too many bytes.
pub record AreTooLarge (told : Bool) (t : Image) (text : List ℕ) (new : Recorded) (want : List (List ℕ × Entry)) (excess : Excess) : Type 0 where
  pub emitted : Emitted
  pub lists : CanBeListed emitted
  pub steps : IsTrue told → AreStepsToMake text new want t emitted
  pub beyond : first_excess (map step_of emitted.steps.items) emitted.staged.items ≡ Some excess

-- The fault tells what of the steps, or of the bytes that they write, is beyond its limit.
abbrev pub IsBeyond : Emitted → CreateFault → Type 0
IsBeyond emitted (fault.TooLarge excess) = first_excess (map step_of emitted.steps.items) emitted.staged.items ≡ Some excess
IsBeyond emitted (fault.Unmovable path) = ⊥
IsBeyond emitted fault.FolderFault = ⊥

-- Why there are no steps. An image that is told can be made at each path; that a call failed is told of the folder.
abbrev pub ComesOfMaking : Bool → Image → List ℕ → Recorded → List (List ℕ × Entry) → CreateFault → Type 0
ComesOfMaking told t text new want (fault.Unmovable path) = IsFalse told
ComesOfMaking told t text new want (fault.TooLarge excess) = AreTooLarge told t text new want excess
ComesOfMaking told t text new want fault.FolderFault = Unit {0}

-- ---- at a moment

-- These are the steps that make an image of this state at this moment.
pub record AreCreationSteps (moment : ℕ) (new : State) (t : Image) (e : Emitted) : Type 0 where
  pub text : List ℕ
  pub is_text : IsMomentText moment text
  pub want : List (List ℕ × Entry)
  pub means : StateMeans new want
  pub are : AreStepsToMake text (recorded new) want t e

-- Why there are none at this moment.
pub record ComesOfCreation (told : Bool) (t : Image) (moment : ℕ) (new : State) (why : CreateFault) : Type 0 where
  pub text : List ℕ
  pub is_text : IsMomentText moment text
  pub want : List (List ℕ × Entry)
  pub means : StateMeans new want
  pub comes : ComesOfMaking told t text (recorded new) want why
