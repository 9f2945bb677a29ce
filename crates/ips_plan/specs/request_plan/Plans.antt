-- The plan of a request from one state of an image to another, or why there is none.
use Rattle.std.specs.Prelude.{◌≡◌, ◌⊎◌, ℕ, Bool, IsTrue, List, map, Result, Ok, Err, IfOk}
use Rattle.std.specs.List.{AllByRecursion}
use Rattle.ips_text.specs.Reading.{IfBad}
use Rattle.ips_text.specs.declared.refusal.Or.{Or}
use Rattle.ips_text.specs.declared.refusal.Or.TheVariants.{Bad}
use Rattle.ips_outside.specs.Image.{Image}
use Rattle.ips_outside.specs.Outside.{Outside, Reads}
use Rattle.ips_aside.specs.lost_and_found.Moments.{NamesMoment}
use Rattle.ips_change.specs.survey.Rows.{AreRows, HasLooked, row_pair}
use Rattle.ips_change.specs.declared.survey.row.Row.{Row}
use Rattle.ips_meaning.specs.declared.entry.Entry.{Entry}
use Rattle.ips_meaning.specs.declared.fault.WantFault.{WantFault}
use Rattle.ips_books.specs.Seen.{accounts as books_seen}
use Rattle.ips_due.specs.outstanding.Parts.{due_file}
use Rattle.ips_state.specs.State.{recorded}
use Rattle.ips_state.specs.Lawful.{IsLawful}
use Rattle.ips_state.specs.declared.state.State.{State}
use Rattle.ips_account_files.specs.declared.ledger.fault.LedgerFault.{LedgerFault}
use Rattle.ips_account_files.specs.Behind.{files_seen}
use Rattle.ips_account_files.specs.declared.files.AccountFiles.{AccountFiles}
use Rattle.ips_counts.specs.declared.counts.Counts.{Counts}
use Rattle.ips_plan_limits.specs.Counts.{absent_among, updated_from}
use Rattle.ips_plan.specs.image_plan.Accounts.{Given, IsLedger}
use Rattle.ips_plan.specs.image_plan.Acting.{AreRuns}
use Rattle.ips_plan.specs.image_plan.Behind.{ComesOf, IsPlanned}
use Rattle.ips_plan.specs.image_plan.Between.{AreMeant, given}
use Rattle.ips_plan.specs.image_plan.Meaning.{StateFails, StateMeans}
use Rattle.ips_plan.specs.declared.image_plan.behind.BehindFault.{BehindFault}
use Rattle.ips_plan.specs.declared.image_plan.between.Between.{Between}
use Rattle.ips_plan.specs.request_plan.Causes.{IsUngiven, unlaid, unmeant}
use Rattle.ips_plan.specs.declared.request_plan.fault.PlanFault.{PlanFault}
use Rattle.ips_plan.specs.declared.request_plan.fault.PlanFault.TheVariants.{SourceFault, FolderFault}
use Rattle.ips_plan.specs.declared.request_plan.planning.Plan.{Plan}

-- What is given by a folder and a source, with the publisher of the new state.
abbrev pub given_of : {F S : Type 0} → Outside F → Outside S → F → S → State → Given
given_of o p folder source new = record {
  told = o.tells folder;
  image = (o.state folder).held;
  tells = p.tells source;
  publisher = new.publisher;
  repository = (p.state source).held;
}

-- These are the account files behind the request, whatever the bytes of payloads.
abbrev pub AreFiles : Given → Between → AccountFiles → Type 0
AreFiles g b files = (bytes : List ℕ → List ℕ) → IsLedger g b.old.now b.new.now b.was.now b.is.now bytes (Ok (files_seen files))

-- So many packages are installed, updated and removed.
pub record AreCounts (old new : State) (counts : Counts) : Type 0 where
  pub installs : counts.installs ≡ absent_among old.installed.items new.installed.items
  pub updates : counts.updates ≡ updated_from old.installed.items new.installed.items
  pub removes : counts.removes ≡ absent_among new.installed.items old.installed.items

-- The plan is that of the request with these account files: its steps and licenses, the words of its actuator, and how many packages it changes.
pub record IsPlanWith (told : Bool) (t : Image) (moment : List ℕ) (b : Between) (files : AccountFiles) (accept : Bool) (p : Plan) : Type 0 where
  pub planned : IsPlanned told t moment b (map due_file files.due.items) (books_seen files.books) accept p.planned
  pub words : AreRuns b.old.now b.new.now p.before.items p.after.items
  pub counted : AreCounts b.old.now b.new.now p.counts

-- There are no steps with these account files, for this cause.
pub record HasNoSteps (told : Bool) (t : Image) (moment : List ℕ) (b : Between) (files : AccountFiles) (accept : Bool) (why : PlanFault) : Type 0 where
  pub fault : BehindFault
  pub comes : ComesOf told t moment b (map due_file files.due.items) (books_seen files.books) accept fault
  pub is : why ≡ unlaid fault

-- The plan is that of the request between these states, with the account files behind it.
pub record IsPlanBetween (g : Given) (moment : List ℕ) (b : Between) (accept : Bool) (p : Plan) : Type 0 where
  pub meant : AreMeant b
  pub files : AccountFiles
  pub are_files : AreFiles g b files
  pub is_plan : IsPlanWith g.told g.image moment b files accept p

-- Why there is no plan of the request between these states: the account files behind it aren't given, or there are no steps.
pub data ComesBetween (g : Given) (moment : List ℕ) (b : Between) (accept : Bool) (why : PlanFault) : Type 0 where
  NoFiles : (f : LedgerFault) → AreMeant b → ((bytes : List ℕ → List ℕ) → IsLedger g b.old.now b.new.now b.was.now b.is.now bytes (Err f)) → IsUngiven f why → ComesBetween g moment b accept why
  NoSteps : (files : AccountFiles) → AreMeant b → AreFiles g b files → HasNoSteps g.told g.image moment b files accept why → ComesBetween g moment b accept why

-- The states are these.
pub record IsBetween (old new : State) (b : Between) : Type 0 where
  pub old_is : b.old.now ≡ old
  pub new_is : b.new.now ≡ new

-- The plan is that of the request from the old state to the new one.
pub record IsRequestPlan (g : Given) (moment : List ℕ) (old new : State) (accept : Bool) (p : Plan) : Type 0 where
  pub between : Between
  pub is_between : IsBetween old new between
  pub is_plan : IsPlanBetween g moment between accept p

-- Why there is none, in this order: the old packages mean no image, or the new ones, or what they mean has no plan.
pub data ComesOfPlan (g : Given) (moment : List ℕ) (old new : State) (accept : Bool) (why : PlanFault) : Type 0 where
  OldFail : (f : WantFault) → StateFails old f → why ≡ unmeant f → ComesOfPlan g moment old new accept why
  NewFail : (f : WantFault) (was : List (List ℕ × Entry)) → StateMeans old was → StateFails new f → why ≡ unmeant f → ComesOfPlan g moment old new accept why
  NonePlanned : (b : Between) → IsBetween old new b → ComesBetween g moment b accept why → ComesOfPlan g moment old new accept why

-- ---- what is promised of a call

-- A request between these states can be planned: this text names its moment, and both states can be recorded.
pub record CanBePlanned (text : List ℕ) (before after : State) : Type 0 where
  pub moment : NamesMoment text
  pub old : IsLawful (recorded before)
  pub new : IsLawful (recorded after)

-- These are the rows of what was and what is wanted, and where the folder tells what it holds, they know of it what a rule asks.
pub record AreSurveyed {F : Type 0} (o : Outside F) (folder : F) (b : Between) (list : List Row) : Type 0 where
  pub rows : AreRows b.was.now b.is.now (map row_pair list)
  pub looked : IsTrue (o.tells folder) → AllByRecursion (HasLooked (o.state folder).held) list

-- The answer is a plan of which this holds, or a fault that comes under this cause, and folder and source are only looked at, where a call that failed is told as
-- such.
pub record IsPlanOrCause {F S : Type 0} (o : Outside F) (q : Outside S) (IsThePlan : Plan → Type 0) (Comes : PlanFault → Type 0) (folder later : F) (source after : S) (answer : Result Plan (Or PlanFault)) : Type 0 where
  pub planned : IfOk answer IsThePlan
  pub refused : IfBad answer (λ why. (why ≡ FolderFault) ⊎ Comes why)
  pub reads : Reads o folder later (answer ≡ Err (Bad FolderFault))
  pub reads_source : Reads q source after (answer ≡ Err (Bad SourceFault))

-- The answer is the plan of the request between these states, or why there is none.
abbrev pub PlansBetween : {F S : Type 0} → Outside F → Outside S → List ℕ → Between → Bool → F → F → S → S → Result Plan (Or PlanFault) → Type 0
PlansBetween o q moment b accept folder later source after answer =
    IsPlanOrCause o q (IsPlanBetween (given o q folder source b) moment b accept) (ComesBetween (given o q folder source b) moment b accept) folder later source after answer

-- The answer is the plan of the request from the old state to the new one, or why there is none.
abbrev pub PlansRequest : {F S : Type 0} → Outside F → Outside S → List ℕ → State → State → Bool → F → F → S → S → Result Plan (Or PlanFault) → Type 0
PlansRequest o q moment old new accept folder later source after answer =
    IsPlanOrCause o q (IsRequestPlan (given_of o q folder source new) moment old new accept) (ComesOfPlan (given_of o q folder source new) moment old new accept) folder later source after answer
