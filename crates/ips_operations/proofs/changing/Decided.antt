-- What is decided, from what each step found.
use Rattle.std.proofs.Common.{◌≡◌, ◌⊎◌, ℕ, Bool, true, false, ◌||◌, IsTrue, List, Option, Some, None, is_none, is_some, map, Result, Ok, Err, inl, inr, refl, sym, ap, subst, ◌∙◌}
use Rattle.std.specs.Prelude.{IfOk}
use Rattle.std.proofs.lemmas.Bool.{true≢false}
use Rattle.ips_text.specs.Ancestry.{covers, same_path}
use Rattle.ips_text.specs.Reading.{IfBad}
use Rattle.ips_text.specs.declared.refusal.Or.{Or}
use Rattle.ips_text.specs.declared.refusal.Or.TheVariants.{Bad, OutOfMemory}
use Rattle.ips_outside.specs.Image.{Entry, Image, IsImage, file_bytes, is_dir}
use Rattle.ips_outside.specs.Outside.{Outside}
use Rattle.ips_words.specs.declared.command.Command.{Command}
use Rattle.ips_steps.specs.Steps.{Stage, Step, all_laid}
use Rattle.ips_steps.specs.Journal.{IsJournal}
use Rattle.ips_steps.specs.Private.{records_name, visible}
use Rattle.ips_steps.specs.View.{step_of}
use Rattle.ips_contents.specs.Contents.{AreSeen, StagedContents}
use Rattle.ips_commit.specs.Staging.{CanStage}
use Rattle.ips_state.specs.Records.{image_path}
use Rattle.ips_state.specs.State.{Recorded, recorded}
use Rattle.ips_state.specs.declared.state.State.{State}
use Rattle.ips_load.specs.Held.{Holds}
use Rattle.ips_load.specs.declared.fault.StateFault.{StateFault}
use Rattle.ips_image.specs.Whole.{IsStateFault}
use Rattle.ips_asked.specs.Requested.{kind_asked}
use Rattle.ips_next.specs.Decided.{MayCome}
use Rattle.ips_next.specs.Next.{ComesNext, IsOldFormat, given}
use Rattle.ips_next.specs.declared.fault.NextFault.{NextFault}
use Rattle.ips_next.specs.declared.fault.NextFault.TheVariants as next
use Rattle.ips_plan.specs.image_plan.Accounts.{Given}
use Rattle.ips_plan.specs.declared.request_plan.fault.PlanFault.{PlanFault}
use Rattle.ips_plan.specs.declared.request_plan.fault.PlanFault.TheVariants as plan
use Rattle.ips_plan.specs.declared.request_plan.planning.Plan.{Plan}
use Rattle.ips_plan.specs.request_plan.Plans.{ComesOfPlan, given_of}
use Rattle.ips_plan.specs.requested.Meant.{ComesAt, IsMeant, IsPlanAt}
use Rattle.ips_report.specs.declared.outcome.Outcome.{Outcome}
use Rattle.ips_tell.specs.refusals.Told.{Answer, unread_told}
use Rattle.ips_tell.specs.told.Naming.{AreNamed}
use Rattle.ips_operations.specs.changing.Refusals.{unled_told, unplanned_told}
use Rattle.ips_run.specs.declared.operation.Change.{Change}
use Rattle.ips_run.specs.declared.operation.Decision.{Decision}
use Rattle.ips_run.specs.declared.operation.Decision.TheVariants as decision
use Rattle.ips_run.specs.declared.operation.DecideFault.{DecideFault}
use Rattle.ips_run.specs.declared.operation.DecideFault.TheVariants as decide
use Rattle.ips_run.specs.Planned.{CanBeListed, IsPlanned}
use Rattle.ips_operations.specs.changing.Commands.{accepts}
use Rattle.ips_operations.specs.changing.Plans.{change_of}
use Rattle.ips_operations.specs.changing.Decides.{Asked, Decides, Led, LeadsNowhere, asked_of, given_for, Changed, Unled, Unplanned, Unread}
use Rattle.ips_operations.specs.changing.Leads.{Leads, LeadsWhere}

-- ---- the folder of the records

under_records : covers records_name image_path ≡ true
unfolding records_name
under_records = refl

beside_records : same_path records_name image_path ≡ false
unfolding records_name
beside_records = refl

-- the folder of the records stands where the records tell a state
pub records_stand : (t : Image) (r : Recorded) → IsImage t → Holds t r → IsTrue (is_dir (t.look records_name))
records_stand t r formed holds = other _ _ (formed.below_dirs records_name image_path under_records beside_records) (some_file (t.look image_path) _ holds.head.file)
  where
    some_file : (e : Option Entry) (bytes : List ℕ) → file_bytes e ≡ Some bytes → is_none e ≡ false
    some_file None bytes h = cc
    some_file (Some e) bytes h = refl

    other : (b c : Bool) → b || c ≡ true → b ≡ false → c ≡ true
    other true c h is = absurd (true≢false is)
    other false c h is = h

-- ---- why nothing is changed

if_ok : {X E : Type 0} (r : Result X E) (P : X → Type 0) → ((x : X) → r ≡ Ok x → P x) → IfOk r P
if_ok (Ok x) P by = by x refl
if_ok (Err e) P by = tt

none_decided : (e : Or DecideFault) (d : Decision Outcome) (r : Answer) → r ≡ Err e → r ≡ Ok d → ⊥
none_decided e d r nothing is = never (sym nothing ∙ is)
  where
    never : Err e ≡ Ok d → ⊥
    never h = cc

pub unread_by : (X : Type 0) (a : Asked) (e : Or StateFault) (r : Answer) → r ≡ unread_told e → IfBad {X = X} {E = StateFault} (Err e) (IsStateFault a.image) → IfOk r (Decides a)
unread_by X a (Bad why) r is h = if_ok r (Decides a) (λ d told. Unread why h (sym is ∙ told))
unread_by X a OutOfMemory r is h = if_ok r (Decides a) (λ d told. absurd (none_decided OutOfMemory d r is told))

pub unled_by : (X : Type 0) (a : Asked) (old : State) (e : Or NextFault) (r : Answer) → Holds a.image (recorded old) → r ≡ unled_told e → IfBad {X = X} {E = NextFault} (Err e) (LeadsNowhere a old)
    → IfOk r (Decides a)
unled_by X a old (Bad why) r holds is h = if_ok r (Decides a) (λ d told. Unled why (record { old = old; holds = holds; leads = h }) (sym is ∙ told))
unled_by X a old OutOfMemory r holds is h = if_ok r (Decides a) (λ d told. absurd (none_decided OutOfMemory d r is told))

-- why the command leads nowhere, from what is said of the next state
pub nowhere : (X : Type 0) (a : Asked) (old : State) (e : Or NextFault) → IfBad {X = X} {E = NextFault} (Err e) (λ why. MayCome (kind_asked a.command.what) why ⊎ IsOldFormat a.command.what old.format)
    → (IsOldFormat a.command.what old.format → ◌≡◌ {A = Result X (Or NextFault)} (Err e) (Err (Bad next.OldFormat))) → (IsTrue a.tells → IfBad {X = X} {E = NextFault} (Err e) (ComesNext (given (recorded old) a.command a.moment a.repository)))
    → IfBad {X = X} {E = NextFault} (Err e) (LeadsNowhere a old)
nowhere X a old (Bad why) may first comes = record { may = may; first = λ is. same (first is); comes = comes }
  where
    same : ◌≡◌ {A = Result X (Or NextFault)} (Err (Bad why)) (Err (Bad next.OldFormat)) → why ≡ next.OldFormat
    same e = cc
nowhere X a old OutOfMemory may first comes = tt

-- the same of what is told where something is
none_told : (e : Or DecideFault) (d : Decision Outcome) (r : Answer) → Some r ≡ Some (Err e) → r ≡ Ok d → ⊥
none_told e d r nothing is = never (sym nothing ∙ ap (λ (x : Answer). Some x) is)
  where
    never : Some (Err e) ≡ Some (Ok d) → ⊥
    never h = cc

pub unplanned_by : (X : Type 0) (a : Asked) (led : Led a) (g : Given) (accept : Bool) (e : Or PlanFault) (r : Answer) → unplanned_told e ≡ Some r → g ≡ given_for a led.new → accept ≡ accepts a.command.what
    → IfBad {X = X} {E = PlanFault} (Err e) (λ why. (why ≡ plan.FolderFault) ⊎ ComesAt g a.moment led.old led.new accept why) → IfOk r (Decides a)
unplanned_by X a led g accept (Bad why) r is given accepted (inl failed) =
    if_ok r (Decides a) (λ d told. absurd (none_told (Bad decide.FolderFault) d r (sym is ∙ ap (λ (f : PlanFault). unplanned_told (Bad f)) failed) told))
unplanned_by X a led g accept (Bad why) r is given accepted (inr comes) = if_ok r (Decides a) (λ d told. Unplanned why (record {
  led = led;
  comes = subst (λ (x : Given). ComesAt x a.moment led.old led.new (accepts a.command.what) why) given (subst (λ (b : Bool). ComesAt g a.moment led.old led.new b why) accepted comes);
}) (is ∙ ap (λ (x : Answer). Some x) told))
unplanned_by X a led g accept OutOfMemory r is given accepted h = if_ok r (Decides a) (λ d told. absurd (none_told OutOfMemory d r (sym is) told))

-- the fault is told
pub is_told : (X : Type 0) (g : Given) (moment : ℕ) (old new : State) (accept : Bool) (e : Or PlanFault)
    → ((g : Given) (moment : List ℕ) (old new : State) (accept : Bool) (why : PlanFault) → ComesOfPlan g moment old new accept why → IsTrue (is_some (unplanned_told (Bad why))))
    → IfBad {X = X} {E = PlanFault} (Err e) (λ why. (why ≡ plan.FolderFault) ⊎ ComesAt g moment old new accept why) → IsTrue (is_some (unplanned_told e))
is_told X g moment old new accept (Bad why) law (inl failed) = ap (λ (f : PlanFault). is_some (unplanned_told (Bad f))) failed
is_told X g moment old new accept (Bad why) law (inr (text, is_text, comes)) = law g text old new accept why comes
is_told X g moment old new accept OutOfMemory law h = refl

-- ---- calls that failed

module _ {X F : Type 0} (from : Result X (Or F)) (e : Or F) (why : F) (was : from ≡ Err e) where
  same : from ≡ Err (Bad why) → e ≡ Bad why
  same failed = inside (sym was ∙ failed)
    where
      inside : ◌≡◌ {A = Result X (Or F)} (Err e) (Err (Bad why)) → e ≡ Bad why
      inside h = cc

  -- told as one
  pub failed_told : (told : Or F → Answer) (d : DecideFault) (r : Answer) → r ≡ told e → told (Bad why) ≡ Err (Bad d) → from ≡ Err (Bad why) → r ≡ Err (Bad d)
  failed_told told d r is by failed = is ∙ ap told (same failed) ∙ by

  -- told as one, where something is told
  pub failed_where_told : (told : Or F → Option Answer) (d : DecideFault) (r : Answer) → told e ≡ Some r → told (Bad why) ≡ Some (Err (Bad d)) → from ≡ Err (Bad why) → r ≡ Err (Bad d)
  failed_where_told told d r is by failed = inside (sym is ∙ ap told (same failed) ∙ by)
    where
      inside : Some r ≡ Some (Err (Bad d)) → r ≡ Err (Bad d)
      inside h = cc

  -- one that is told did fail
  pub told_failed : e ≡ Bad why → from ≡ Err (Bad why)
  told_failed is = was ∙ ap (λ (x : Or F). Err x) is

-- what is given by a folder that tells what it holds, and by a source
pub given_tells : {F S : Type 0} (o : Outside F) (p : Outside S) (folder : F) (source : S) (c : Command) (moment : ℕ) (new : State) → IsTrue (o.tells folder)
    → given_of o p folder source new ≡ given_for (asked_of c moment (p.tells source) (p.state source).held (o.state folder).held) new
given_tells o p folder source c moment new tells = ap (λ (b : Bool). record { told = b; image = (o.state folder).held; tells = p.tells source; publisher = new.publisher; repository = (p.state source).held }) tells

-- ---- the change

pub change_decided : (a : Asked) (led : Led a) (g : Given) (accept : Bool) (p : Plan) (publisher : List ℕ) (c : Change Outcome) → c ≡ change_of publisher p → AreNamed p.planned.emitted.staged.items → publisher ≡ led.new.publisher
    → g ≡ given_for a led.new → accept ≡ accepts a.command.what → IsPlanAt g a.moment led.old led.new accept p → Decides a (decision.Change c)
change_decided a led g accept p publisher c is named same given accepted planned =
    subst (λ (x : Change Outcome). Decides a (decision.Change x)) (sym (is ∙ ap (λ (n : List ℕ). change_of n p) same)) (Changed led p (record {
      named = named;
      planned = subst (λ (x : Given). IsPlanAt x a.moment led.old led.new (accepts a.command.what) p) given (subst (λ (b : Bool). IsPlanAt g a.moment led.old led.new b p) accepted planned);
    }))

-- what is told of the plan is told of the change
pub change_listed : (p : Plan) (publisher : List ℕ) (c : Change Outcome) → c ≡ change_of publisher p → IsJournal (map step_of p.planned.emitted.steps.items) → AreSeen p.planned.emitted.staged.items → CanBeListed c
change_listed p publisher c is lists seen = subst (λ (x : Change Outcome). CanBeListed x) (sym is) (record { lists = lists; seen = seen })

module _ (a : Asked) (led : Led a) (p : Plan) where
  -- the steps of the plan
  abbrev Steps : List Step
  Steps = map step_of p.planned.emitted.steps.items

  -- what is promised of the plan, where the repository tells what it holds
  abbrev pub MeansIt : Type 0
  MeansIt = IsTrue a.tells → (contents : Stage) → StagedContents true a.repository led.new.publisher a.image p.planned.emitted.staged.items contents
      → IsMeant a.moment led.old led.new a.repository a.image (visible (all_laid contents Steps a.image))

  pub change_planned : (publisher : List ℕ) (c : Change Outcome) → c ≡ change_of publisher p → publisher ≡ led.new.publisher → CanStage Steps p.planned.emitted.staged.items a.image → MeansIt
      → IsPlanned (LeadsWhere a.command a.moment) a.tells a.repository a.image c
  change_planned publisher c is same can meant =
      subst (λ (x : Change Outcome). IsPlanned (LeadsWhere a.command a.moment) a.tells a.repository a.image x) (sym (is ∙ ap (λ (n : List ℕ). change_of n p) same)) (record {
        can = can;
        is_meant = λ contents staged tells. leads (visible (all_laid contents Steps a.image)) tells
            (meant tells contents (subst (λ (b : Bool). StagedContents b a.repository led.new.publisher a.image p.planned.emitted.staged.items contents) tells staged));
      })
    where
      leads : (after : Image) → IsTrue a.tells → IsMeant a.moment led.old led.new a.repository a.image after → Leads a.command a.moment a.repository (visible a.image) after
      leads after tells is_meant = record {
        whole = a.image;
        seen = refl;
        old = led.old;
        holds = led.holds;
        new = led.new;
        lawful = led.leads.lawful;
        next = led.leads.next tells;
        meant = is_meant;
      }
