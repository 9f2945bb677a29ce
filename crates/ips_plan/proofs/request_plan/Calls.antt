-- A plan of a request, or why there is none, from call to call.
use Rattle.std.proofs.Common.{◌≡◌, ◌⊎◌, ⊎_elim, ℕ, Bool, List, Result, Err, IfOk, inl, inr, sym, subst, ◌∙◌}
use Rattle.std.specs.List.{AllByRecursion}
use Rattle.std.proofs.lemmas.Result.{IfOk-weaker}
use Rattle.ips_text.specs.Reading.{IfBad}
use Rattle.ips_text.specs.declared.refusal.Or.{Or}
use Rattle.ips_text.specs.declared.refusal.Or.TheVariants.{Bad, OutOfMemory}
use Rattle.ips_load.proofs.Answered.{bad_weaker}
use Rattle.ips_outside.specs.Outside.{Outside, Reads}
use Rattle.ips_outside.specs.State as outside
use Rattle.ips_outside.proofs.Reading.{reads_as, reads_none, reads_then}
use Rattle.ips_change.specs.survey.Rows.{HasLooked}
use Rattle.ips_change.specs.declared.survey.row.Row.{Row}
use Rattle.ips_meaning.specs.declared.fault.WantFault.{WantFault}
use Rattle.ips_meaning.specs.declared.fault.WantFault.TheVariants as want
use Rattle.ips_plan.specs.image_plan.Accounts.{Given}
use Rattle.ips_plan.specs.image_plan.Between.{given}
use Rattle.ips_plan.specs.declared.image_plan.between.Between.{Between}
use Rattle.ips_plan.specs.declared.image_plan.behind.BehindFault.{BehindFault}
use Rattle.ips_plan.specs.declared.image_plan.behind.BehindFault.TheVariants as behind
use Rattle.ips_account_files.specs.declared.files.AccountFiles.{AccountFiles}
use Rattle.ips_outside.specs.Image.{Image}
use Rattle.ips_plan.specs.request_plan.Causes.{unlaid, unmeant}
use Rattle.ips_plan.specs.request_plan.Plans.{AreSurveyed, ComesBetween, HasNoSteps, IsPlanBetween, IsPlanOrCause, PlansBetween}
use Rattle.ips_plan.specs.declared.request_plan.fault.PlanFault.{PlanFault}
use Rattle.ips_plan.specs.declared.request_plan.fault.PlanFault.TheVariants.{FolderFault, SourceFault}
use Rattle.ips_plan.specs.declared.request_plan.planning.Plan.{Plan}

-- ---- faults

apart : (why other : PlanFault) → ◌≡◌ {A = Result Plan (Or PlanFault)} (Err (Bad why)) (Err (Bad other)) → why ≡ other
apart why other e = cc

no_folder_fault : (w : WantFault) → unmeant w ≡ FolderFault → ⊥
no_folder_fault (want.Reserved path) e = cc
no_folder_fault (want.Clash clash) e = cc

no_source_fault : (w : WantFault) → unmeant w ≡ SourceFault → ⊥
no_source_fault (want.Reserved path) e = cc
no_source_fault (want.Clash clash) e = cc

no_source_of : (f : BehindFault) → SourceFault ≡ unlaid f → ⊥
no_source_of (behind.UnknownOwner unknown) e = cc
no_source_of (behind.LicenseNeeded list) e = cc
no_source_of (behind.Unmovable path) e = cc
no_source_of (behind.TooLarge excess) e = cc
no_source_of behind.FolderFault e = cc

-- steps ask nothing of the source
pub steps_no_source : (told : Bool) (t : Image) (moment : List ℕ) (b : Between) (files : AccountFiles) (accept : Bool) (answer : Result Plan (Or PlanFault)) → IfBad answer (HasNoSteps told t moment b files accept)
    → answer ≡ Err (Bad SourceFault) → ⊥
steps_no_source told t moment b files accept answer none e =
    let h : HasNoSteps told t moment b files accept SourceFault = subst (λ (r : Result Plan (Or PlanFault)). IfBad r (HasNoSteps told t moment b files accept)) e none in
    no_source_of h.fault h.is

-- ---- a look at the folder

module _ {F : Type 0} (o : Outside F) where
  -- a call that didn't fail
  pub never_failed : (old new : F) (failed : Type 0) → Reads o old new failed → (failed → ⊥) → Reads o old new ⊥
  never_failed old new failed run never = reads_as o old new failed ⊥ run never (λ x. absurd x)

  -- a call behind one that didn't fail
  pub reads_behind : (old mid new : F) (failed failure : Type 0) → Reads o old mid failed → (failed → ⊥) → Reads o mid new failure → Reads o old new failure
  reads_behind old mid new failed failure first never last = reads_then o old mid new failure failure (never_failed old mid failed first never) last (λ x. x) (λ x. x)

  -- rows tell the same behind a look
  pub surveyed_behind : (old new : F) (failed : Type 0) (b : Between) (list : List Row) → Reads o old new failed → AreSurveyed o old b list → AreSurveyed o new b list
  surveyed_behind old new failed b list run are = record {
    rows = are.rows;
    looked = λ tells. subst (λ (s : outside.State). AllByRecursion (HasLooked s.held) list) (sym run.kept) (are.looked (sym run.call.same_kind ∙ tells));
  }

-- ---- a plan or its cause

module _ {F S : Type 0} (o : Outside F) (q : Outside S) where
  -- another plan, under other causes
  pub plan_as : (P Q : Plan → Type 0) (C D : PlanFault → Type 0) (folder later : F) (source after : S) (answer : Result Plan (Or PlanFault)) → ((p : Plan) → P p → Q p) → ((why : PlanFault) → C why → D why)
      → IsPlanOrCause o q P C folder later source after answer → IsPlanOrCause o q Q D folder later source after answer
  plan_as P Q C D folder later source after answer to from is = record {
    planned = IfOk-weaker answer P Q to is.planned;
    refused = bad_weaker answer (λ why. (why ≡ FolderFault) ⊎ C why) (λ why. (why ≡ FolderFault) ⊎ D why) (λ why h. ⊎_elim (λ failed. inl failed) (λ comes. inr (from why comes)) h) is.refused;
    reads = is.reads;
    reads_source = is.reads_source;
  }

  -- packages mean no image, before any call
  pub unmeant_before : (Q : Plan → Type 0) (D : PlanFault → Type 0) (folder : F) (source : S) (w : WantFault) (why : PlanFault) → why ≡ unmeant w → D why → IsPlanOrCause o q Q D folder folder source source (Err (Bad why))
  unmeant_before Q D folder source w why is comes = record {
    planned = tt;
    refused = inr comes;
    reads = reads_none o folder _ (λ e. no_folder_fault w (sym is ∙ apart why FolderFault e));
    reads_source = reads_none q source _ (λ e. no_source_fault w (sym is ∙ apart why SourceFault e));
  }

  -- memory ran out, before any call
  pub starved_before : (Q : Plan → Type 0) (D : PlanFault → Type 0) (folder : F) (source : S) → IsPlanOrCause o q Q D folder folder source source (Err OutOfMemory)
  starved_before Q D folder source = record { planned = tt; refused = tt; reads = reads_none o folder _ (λ e. never FolderFault e); reads_source = reads_none q source _ (λ e. never SourceFault e) }
    where
      never : (why : PlanFault) → ◌≡◌ {A = Result Plan (Or PlanFault)} (Err OutOfMemory) (Err (Bad why)) → ⊥
      never why e = cc

  -- behind a look at the folder that didn't fail
  pub plans_behind : (moment : List ℕ) (b : Between) (accept : Bool) (folder mid later : F) (source after : S) (failed : Type 0) (answer : Result Plan (Or PlanFault)) → Reads o folder mid failed → (failed → ⊥)
      → PlansBetween o q moment b accept mid later source after answer → PlansBetween o q moment b accept folder later source after answer
  plans_behind moment b accept folder mid later source after failed answer run never is = record {
    planned = subst (λ (g : Given). IfOk answer (IsPlanBetween g moment b accept)) same is.planned;
    refused = subst (λ (g : Given). IfBad answer (λ why. (why ≡ FolderFault) ⊎ ComesBetween g moment b accept why)) same is.refused;
    reads = reads_behind o folder mid later failed _ run never is.reads;
    reads_source = is.reads_source;
  }
    where
      same : given o q mid source b ≡ given o q folder source b
      same = λ i. record { told = run.call.same_kind i; image = (run.kept i).held; tells = q.tells source; publisher = b.new.now.publisher; repository = (q.state source).held }
