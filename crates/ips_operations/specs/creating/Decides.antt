-- What a command that makes an image decides: each refusal under its cause, and the change that it means.
use Rattle.std.specs.Prelude.{◌≡◌, ◌≢◌, Bool, true, IsTrue, None, Ok, map}
use Rattle.ips_text.specs.declared.refusal.Or.TheVariants.{Bad}
use Rattle.ips_outside.specs.Image.{Image}
use Rattle.ips_state.specs.Records.{image_path}
use Rattle.ips_state.specs.State.{recorded}
use Rattle.ips_state.specs.declared.state.State.{State}
use Rattle.ips_steps.specs.Private.{visible}
use Rattle.ips_steps.specs.View.{step_of}
use Rattle.ips_emit.specs.declared.emitting.Emitted.{Emitted}
use Rattle.ips_plan.specs.created.Creating.{AreCreationSteps, ComesOfCreation}
use Rattle.ips_plan.specs.created.Made.{image_made}
use Rattle.ips_plan.specs.declared.created.fault.CreateFault.{CreateFault}
use Rattle.ips_plan_limits.specs.Limits.{first_excess}
use Rattle.ips_report.specs.declared.outcome.Outcome.{Outcome}
use Rattle.ips_report.specs.declared.outcome.Outcome.TheVariants as outcome
use Rattle.ips_run.specs.declared.operation.Decision.{Decision}
use Rattle.ips_run.specs.declared.operation.Decision.TheVariants as decision
use Rattle.ips_tell.specs.told.Laying.{IsChangeOfSteps}
use Rattle.ips_run.specs.declared.operation.Change.{Change}
use Rattle.ips_operations.specs.creating.Creations.{Creation, IsBegun}
use Rattle.ips_operations.specs.creating.Told.{unmade_told}

-- The image isn't made with the state that the command begins, for this cause.
pub record IsUnmade (a : Creation) (t : Image) (why : CreateFault) : Type 0 where
  pub state : State
  pub begun : IsBegun a state
  pub comes : ComesOfCreation true t a.moment state why

-- What is decided, in this order: there is an image; the image can't be made, for a cause; it is made with the state that the command begins, by no more steps than
-- there may be.
pub data Decides (a : Creation) (t : Image) : Decision Outcome → Type 0 where
  Exists : t.look image_path ≢ None → Decides a t (decision.Refused outcome.ImageExists)
  Unmade : {d : Decision Outcome} (why : CreateFault) → t.look image_path ≡ None → IsUnmade a t why → unmade_told (Bad why) ≡ Ok d → Decides a t d
  Made : (s : State) (e : Emitted) (c : Change Outcome) → t.look image_path ≡ None → IsBegun a s → AreCreationSteps a.moment s t e → first_excess (map step_of e.steps.items) e.staged.items ≡ None
      → IsChangeOfSteps s.publisher e c → Decides a t (decision.Change c)

-- What is seen behind the command: the image that is made of what was seen, with the records of the state that the command begins.
pub record MakesImage (a : Creation) (before after : Image) : Type 0 where
  pub state : State
  pub begun : IsBegun a state
  pub is : after ≡ image_made (recorded state) before

-- The same, where the repository tells what it holds.
abbrev pub makes_of : Creation → Bool → Image → Image → Image → Type 0
makes_of a tells repository before after = IsTrue tells → MakesImage a before after
