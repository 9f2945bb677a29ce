-- What a command that repairs an image decides: each refusal under its cause, and the change that it means.
use Rattle.std.specs.Prelude.{◌≡◌, ◌≢◌, ℕ, Bool, true, IsTrue, List, [], None, Ok, map}
use Rattle.ips_text.specs.declared.refusal.Or.TheVariants.{Bad}
use Rattle.ips_outside.specs.Image.{Image}
use Rattle.ips_steps.specs.Private.{visible}
use Rattle.ips_steps.specs.View.{step_of}
use Rattle.ips_state.specs.State.{recorded}
use Rattle.ips_state.specs.declared.state.State.{State}
use Rattle.ips_load.specs.Held.{Holds}
use Rattle.ips_load.specs.declared.fault.StateFault.{StateFault}
use Rattle.ips_image.specs.Whole.{IsStateFault}
use Rattle.ips_meaning.specs.declared.entry.Entry.{Entry}
use Rattle.ips_meaning.specs.declared.fault.WantFault.{WantFault}
use Rattle.ips_after.specs.Findings.{findings}
use Rattle.ips_change.specs.wanted.Wanted.{want_of}
use Rattle.ips_change.specs.wanted.Named.{is_payload_of}
use Rattle.ips_plan.specs.image_plan.Meaning.{StateFails, StateMeans}
use Rattle.ips_emit.specs.declared.emitting.Emitted.{Emitted}
use Rattle.ips_repair.specs.Meant.{IsRepairedImage}
use Rattle.ips_repair.specs.Repairing.{AreRepairSteps, ComesOfRepairAt}
use Rattle.ips_repair.specs.declared.fault.RepairFault.{RepairFault}
use Rattle.ips_plan_limits.specs.Limits.{first_excess}
use Rattle.ips_report.specs.declared.outcome.Outcome.{Outcome}
use Rattle.ips_report.specs.declared.outcome.Outcome.TheVariants as outcome
use Rattle.ips_tell.specs.refusals.Told.{unmeant_told, unread_told}
use Rattle.ips_run.specs.declared.operation.Change.{Change}
use Rattle.ips_run.specs.declared.operation.Decision.{Decision}
use Rattle.ips_run.specs.declared.operation.Decision.TheVariants as decision
use Rattle.ips_tell.specs.told.Laying.{IsChangeOfSteps}
use Rattle.ips_operations.specs.fixing.Fixes.{Repairing, IsNoted}
use Rattle.ips_operations.specs.fixing.Told.{unrepaired_told}

-- The records of the image tell this state, of the second format.
pub record Told (t : Image) : Type 0 where
  pub state : State
  pub holds : Holds t (recorded state)
  pub format : state.format ≡ 2

-- This is the state that the records of the image tell, with the line of the command behind its history.
pub record IsNewState (a : Repairing) (t : Image) (new : State) : Type 0 where
  pub told : Told t
  pub noted : IsNoted a told.state new

-- The packages of the state mean these entries, and something is found in the image against them.
pub record IsDamaged (t : Image) (state : State) : Type 0 where
  pub want : List (List ℕ × Entry)
  pub means : StateMeans state want
  pub found : findings is_payload_of (want_of want) t ≢ []

-- The packages of the state mean these entries, and nothing is found in the image against them.
pub record IsSound (t : Image) (state : State) : Type 0 where
  pub want : List (List ℕ × Entry)
  pub means : StateMeans state want
  pub found : findings is_payload_of (want_of want) t ≡ []

-- The image is damaged, and isn't repaired, for this cause.
pub record IsUnrepaired (a : Repairing) (t : Image) (why : RepairFault) : Type 0 where
  pub new : State
  pub is_new : IsNewState a t new
  pub damaged : IsDamaged t is_new.told.state
  pub comes : ComesOfRepairAt true t a.moment new.history.items damaged.want why

-- The image is damaged, and is repaired by these steps, which leave this state and are no more than there may be.
pub record IsRepairedBy (a : Repairing) (t : Image) (new : State) (e : Emitted) : Type 0 where
  pub is_new : IsNewState a t new
  pub damaged : IsDamaged t is_new.told.state
  pub steps : AreRepairSteps a.moment new.history.items damaged.want t e
  pub within : first_excess (map step_of e.steps.items) e.staged.items ≡ None

-- What is decided, in this order: the records can't be read; they are of the first format; the packages mean no image; nothing is found; the image can't be repaired, for a
-- cause; it is repaired.
pub data Decides (a : Repairing) (t : Image) : Decision Outcome → Type 0 where
  Unread : {d : Decision Outcome} (why : StateFault) → IsStateFault t why → unread_told (Bad why) ≡ Ok d → Decides a t d
  OldFormat : (s : State) → Holds t (recorded s) → s.format ≡ 1 → Decides a t (decision.Refused outcome.OldFormat)
  Unmeant : {d : Decision Outcome} (told : Told t) (why : WantFault) → StateFails told.state why → d ≡ unmeant_told why → Decides a t d
  Sound : (told : Told t) → IsSound t told.state → Decides a t decision.Nothing
  Unrepaired : {d : Decision Outcome} (why : RepairFault) → IsUnrepaired a t why → unrepaired_told (Bad why) ≡ Ok d → Decides a t d
  Repaired : (new : State) (e : Emitted) (c : Change Outcome) → IsRepairedBy a t new e → IsChangeOfSteps new.publisher e c → Decides a t (decision.Change c)

-- What is seen behind the command: the repaired image of what was seen, with the history of the state that the records tell and the line of the command behind it.
pub record RepairsImage (a : Repairing) (repository before after : Image) : Type 0 where
  pub whole : Image
  pub seen : before ≡ visible whole
  pub new : State
  pub is_new : IsNewState a whole new
  pub is : IsRepairedImage a.moment new repository before after

-- The same, where the repository tells what it holds.
abbrev pub repairs_of : Repairing → Bool → Image → Image → Image → Type 0
repairs_of a tells repository before after = IsTrue tells → RepairsImage a repository before after
