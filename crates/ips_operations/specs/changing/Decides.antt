-- What a changing command decides: each refusal under its cause, and the change that it means.
use Rattle.std.specs.Prelude.{◌≡◌, ◌⊎◌, ℕ, Bool, true, IsTrue, Some, Ok}
use Rattle.ips_text.specs.declared.refusal.Or.TheVariants.{Bad}
use Rattle.ips_outside.specs.Image.{Image}
use Rattle.ips_words.specs.declared.command.Command.{Command}
use Rattle.ips_state.specs.State.{recorded}
use Rattle.ips_state.specs.Lawful.{IsLawful}
use Rattle.ips_state.specs.declared.state.State.{State}
use Rattle.ips_load.specs.Held.{Holds}
use Rattle.ips_load.specs.declared.fault.StateFault.{StateFault}
use Rattle.ips_image.specs.Whole.{IsStateFault}
use Rattle.ips_asked.specs.Requested.{kind_asked}
use Rattle.ips_next.specs.Decided.{MayCome}
use Rattle.ips_next.specs.Next.{ComesNext, IsNext, IsOldFormat, given}
use Rattle.ips_next.specs.declared.fault.NextFault.{NextFault}
use Rattle.ips_next.specs.declared.fault.NextFault.TheVariants.{OldFormat}
use Rattle.ips_plan.specs.image_plan.Accounts.{Given}
use Rattle.ips_plan.specs.declared.request_plan.fault.PlanFault.{PlanFault}
use Rattle.ips_plan.specs.declared.request_plan.planning.Plan.{Plan}
use Rattle.ips_plan.specs.requested.Meant.{ComesAt, IsPlanAt}
use Rattle.ips_report.specs.declared.outcome.Outcome.{Outcome}
use Rattle.ips_tell.specs.refusals.Told.{unread_told}
use Rattle.ips_tell.specs.told.Naming.{AreNamed}
use Rattle.ips_run.specs.declared.operation.Decision.{Decision}
use Rattle.ips_run.specs.declared.operation.Decision.TheVariants as decision
use Rattle.ips_operations.specs.changing.Commands.{accepts}
use Rattle.ips_operations.specs.changing.Refusals.{unled_told, unplanned_told}
use Rattle.ips_operations.specs.changing.Plans.{change_of}

-- A command at a moment, with what it goes by: a repository that tells what it holds or doesn't, and an image.
pub record Asked : Type 0 where
  pub command : Command
  pub moment : ℕ
  pub tells : Bool
  pub repository : Image
  pub image : Image

-- The command at this moment, with what it goes by.
abbrev pub asked_of : Command → ℕ → Bool → Image → Image → Asked
asked_of c moment tells repository t = record { command = c; moment = moment; tells = tells; repository = repository; image = t }

-- What is given to the plan of a request to this state.
abbrev pub given_for : Asked → State → Given
given_for a new = record { told = true; image = a.image; tells = a.tells; publisher = new.publisher; repository = a.repository }

-- The command leads from the old state to this one, which can be recorded: the format allows it, and where the repository tells what it holds, this is the next
-- state.
pub record LeadsOn (a : Asked) (old new : State) : Type 0 where
  pub lawful : IsLawful (recorded new)
  pub format : IsOldFormat a.command.what old.format → ⊥
  pub next : IsTrue a.tells → IsNext (given (recorded old) a.command a.moment a.repository) (recorded new)

-- The command leads from the old state to no other, for this cause: the format comes before all others, and where the repository tells what it holds, each comes under
-- its cause.
pub record LeadsNowhere (a : Asked) (old : State) (why : NextFault) : Type 0 where
  pub may : MayCome (kind_asked a.command.what) why ⊎ IsOldFormat a.command.what old.format
  pub first : IsOldFormat a.command.what old.format → why ≡ OldFormat
  pub comes : IsTrue a.tells → ComesNext (given (recorded old) a.command a.moment a.repository) why

-- The records of the image tell the old state, and from it the command leads to the new one.
pub record Led (a : Asked) : Type 0 where
  pub old : State
  pub holds : Holds a.image (recorded old)
  pub new : State
  pub leads : LeadsOn a old new

-- The records of the image tell a state, and from it the command leads to no other, for this cause.
pub record IsUnled (a : Asked) (why : NextFault) : Type 0 where
  pub old : State
  pub holds : Holds a.image (recorded old)
  pub leads : LeadsNowhere a old why

-- The request from the old state to the new one has no plan, for this cause.
pub record IsUnplanned (a : Asked) (why : PlanFault) : Type 0 where
  pub led : Led a
  pub comes : ComesAt (given_for a led.new) a.moment led.old led.new (accepts a.command.what) why

-- It has this plan, whose payloads have names.
pub record IsPlannedTo (a : Asked) (led : Led a) (p : Plan) : Type 0 where
  pub named : AreNamed p.planned.emitted.staged.items
  pub planned : IsPlanAt (given_for a led.new) a.moment led.old led.new (accepts a.command.what) p

-- What a changing command decides, in this order: the records can't be read; the command leads to no new state, or there is nothing to do; the request to
-- the new state has no plan; and the change is that plan. A fault is decided as what it is told as, so where a call failed nothing is decided.
pub data Decides (a : Asked) : Decision Outcome → Type 0 where
  Unread : {d : Decision Outcome} (why : StateFault) → IsStateFault a.image why → unread_told (Bad why) ≡ Ok d → Decides a d
  Unled : {d : Decision Outcome} (why : NextFault) → IsUnled a why → unled_told (Bad why) ≡ Ok d → Decides a d
  Unplanned : {d : Decision Outcome} (why : PlanFault) → IsUnplanned a why → unplanned_told (Bad why) ≡ Some (Ok d) → Decides a d
  Changed : (led : Led a) (p : Plan) → IsPlannedTo a led p → Decides a (decision.Change (change_of led.new.publisher p))
