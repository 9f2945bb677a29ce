-- What is promised of the plan of a request: the image after it.
use Rattle.std.specs.Prelude.{◌≡◌, ℕ, Bool, true, IsTrue, List, map, None, Result, Ok, IfOk}
use Rattle.ips_text.specs.declared.refusal.Or.{Or}
use Rattle.ips_outside.specs.Image.{Image, is_dir}
use Rattle.ips_outside.specs.Outside.{Outside}
use Rattle.ips_steps.specs.Journal.{IsJournal}
use Rattle.ips_steps.specs.Private.{gate_name, records_name, visible}
use Rattle.ips_steps.specs.Steps.{Stage, all_laid}
use Rattle.ips_steps.specs.View.{step_of}
use Rattle.ips_contents.specs.Contents.{AreSeen, StagedContents}
use Rattle.ips_commit.specs.Staging.{CanStage}
use Rattle.ips_state.specs.State.{recorded}
use Rattle.ips_state.specs.Lawful.{IsLawful}
use Rattle.ips_state.specs.declared.state.State.{State}
use Rattle.ips_moment.specs.Moment.{IsMomentText}
use Rattle.ips_meaning.specs.declared.entry.Entry.{Entry}
use Rattle.ips_books.specs.Accounts.{Accounts}
use Rattle.ips_books.specs.Lines.{account_lines}
use Rattle.ips_books.specs.Reading.{Texts}
use Rattle.ips_after.specs.Request.{Over}
use Rattle.ips_after.specs.Salvage.{IsImageAfter}
use Rattle.ips_change.specs.wanted.Named.{is_payload_of}
use Rattle.ips_due.specs.Asked.{request_between}
use Rattle.ips_due.specs.Due.{Due, IsOverOf}
use Rattle.ips_image_steps.specs.staged_plans.Payloads.{payload_bytes}
use Rattle.ips_account_files.specs.Behind.{Files}
use Rattle.ips_request_due.specs.RequestDue.{IsRequestDue}
use Rattle.ips_plan.specs.image_plan.Accounts.{Given, IsLedger}
use Rattle.ips_plan.specs.image_plan.Meaning.{StateMeans}
use Rattle.ips_plan.specs.request_plan.Plans.{ComesOfPlan, IsPlanOrCause, IsRequestPlan, given_of}
use Rattle.ips_plan.specs.declared.request_plan.fault.PlanFault.{PlanFault}
use Rattle.ips_plan.specs.declared.request_plan.planning.Plan.{Plan}

-- The plan is that of the request from the old state to the new one at this moment.
abbrev pub IsPlanAt : Given → ℕ → State → State → Bool → Plan → Type 0
IsPlanAt g moment old new accept p = (text : List ℕ) × IsMomentText moment text × IsRequestPlan g text old new accept p

-- Why there is none at this moment.
abbrev pub ComesAt : Given → ℕ → State → State → Bool → PlanFault → Type 0
ComesAt g moment old new accept why = (text : List ℕ) × IsMomentText moment text × ComesOfPlan g text old new accept why

-- An image and the repository of the publisher of a state's packages, where both tell what they hold.
abbrev pub given_telling : State → Image → Image → Given
given_telling new repository t = record { told = true; image = t; tells = true; publisher = new.publisher; repository = repository }

-- The lines of the account files.
abbrev pub accounts_in : Texts → Accounts
accounts_in books = record { passwd = account_lines books.passwd; shadow = account_lines books.shadow; group = account_lines books.group }

-- What is then seen is the image after the request from the old state to the new one, over this image at this moment: by what the packages of both mean, with
-- the bytes that payloads have in the repository, the account files behind the request, and what is due.
pub record IsMeant (moment : ℕ) (old new : State) (repository t after : Image) : Type 0 where
  pub text : List ℕ
  pub is_text : IsMomentText moment text
  pub was : List (List ℕ × Entry)
  pub old_means : StateMeans old was
  pub is : List (List ℕ × Entry)
  pub new_means : StateMeans new is
  pub files : Files
  pub are_files : IsLedger (given_telling new repository t) old new was is (payload_bytes new.publisher repository) (Ok files)
  pub due : Due
  pub is_due : IsRequestDue files.due (accounts_in files.books) old new due
  pub over : Over
  pub is_over : IsOverOf (payload_bytes new.publisher repository) is_payload_of due t over
  pub image : IsImageAfter text (request_between was is (payload_bytes new.publisher repository) is_payload_of over) (visible t) after

-- ---- what is promised of a call

-- The request can be carried out on this folder: both states can be recorded, and where the folder tells what it holds, the folder of the records stands in it, and
-- the gate is closed.
pub record CanBeRequested {F : Type 0} (o : Outside F) (folder : F) (before after : State) : Type 0 where
  pub old : IsLawful (recorded before)
  pub new : IsLawful (recorded after)
  pub records : IsTrue (o.tells folder) → IsTrue (is_dir ((o.state folder).held.look records_name))
  pub shut : IsTrue (o.tells folder) → (o.state folder).held.look gate_name ≡ None

-- The answer is the plan of the request at this moment, or why there is none: a journal can list the steps of the plan, none is taken from the updater's own names,
-- they can be staged, and what is seen once they are laid is the image after the request.
pub record IsRequested {F S : Type 0} (o : Outside F) (q : Outside S) (moment : ℕ) (old new : State) (accept : Bool) (folder later : F) (source after : S) (answer : Result Plan (Or PlanFault)) : Type 0 where
  pub plans : IsPlanOrCause o q (IsPlanAt (given_of o q folder source new) moment old new accept) (ComesAt (given_of o q folder source new) moment old new accept) folder later source after answer
  pub lists : IfOk answer (λ p. IsJournal (map step_of p.planned.emitted.steps.items))
  pub seen : IfOk answer (λ p. AreSeen p.planned.emitted.staged.items)
  pub stages : IsTrue (o.tells folder) → IfOk answer (λ p. CanStage (map step_of p.planned.emitted.steps.items) p.planned.emitted.staged.items (o.state folder).held)
  pub meant : IsTrue (o.tells folder) → IsTrue (q.tells source) → IfOk answer (λ p. (contents : Stage) → StagedContents true (q.state source).held new.publisher (o.state folder).held p.planned.emitted.staged.items contents
      → IsMeant moment old new (q.state source).held (o.state folder).held (visible (all_laid contents (map step_of p.planned.emitted.steps.items) (o.state folder).held)))
