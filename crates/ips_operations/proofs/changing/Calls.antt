-- What is decided, from call to call, and where nothing is changed.
use Rattle.std.proofs.Common.{◌≡◌, ℕ, IsTrue, Option, Some, None, IfSome, Ok, Err, refl, sym, subst, ◌∙◌}
use Rattle.std.specs.Prelude.{IfOk}
use Rattle.std.proofs.lemmas.Result.{IfOk-weaker}
use Rattle.ips_text.specs.declared.refusal.Or.{Or}
use Rattle.ips_text.specs.declared.refusal.Or.TheVariants.{Bad, OutOfMemory}
use Rattle.ips_outside.specs.Outside.{Outside, Reads}
use Rattle.ips_outside.specs.State as outside
use Rattle.ips_outside.proofs.Reading.{reads_none}
use Rattle.ips_steps.specs.Private.{gate_name}
use Rattle.ips_words.specs.declared.command.Command.{Command}
use Rattle.ips_history.specs.declared.effect.Effect.TheVariants.{Changes}
use Rattle.ips_state.specs.State.{recorded}
use Rattle.ips_state.specs.Lawful.{IsLawful}
use Rattle.ips_state.specs.declared.state.State.{State}
use Rattle.ips_load.specs.Held.{Holds}
use Rattle.ips_load.specs.declared.fault.StateFault.{StateFault}
use Rattle.ips_load.specs.declared.fault.StateFault.TheVariants as state
use Rattle.ips_repo.specs.declared.fault.RepoFault.TheVariants as repo
use Rattle.ips_next.specs.declared.fault.NextFault.{NextFault}
use Rattle.ips_next.specs.declared.fault.NextFault.TheVariants as next
use Rattle.ips_plan.proofs.request_plan.Calls.{reads_behind}
use Rattle.ips_plan.specs.declared.request_plan.fault.PlanFault.{PlanFault}
use Rattle.ips_plan.specs.declared.request_plan.fault.PlanFault.TheVariants as plan
use Rattle.ips_report.specs.declared.outcome.Outcome.{Outcome}
use Rattle.ips_run.specs.Planned.{CanBeListed, IfChange, IsOfEffect, IsPlanned}
use Rattle.ips_run.specs.declared.operation.Change.{Change}
use Rattle.ips_run.specs.declared.operation.DecideFault.{DecideFault}
use Rattle.ips_run.specs.declared.operation.DecideFault.TheVariants as decide
use Rattle.ips_run.specs.declared.operation.Decision.{Decision}
use Rattle.ips_run.specs.declared.operation.Decision.TheVariants as decision
use Rattle.ips_tell.specs.told.Told.{IsToldAs}
use Rattle.ips_tell.specs.refusals.Told.{Answer, unread_told}
use Rattle.ips_operations.specs.changing.Refusals.{unled_told, unplanned_told}
use Rattle.ips_operations.specs.changing.Decides.{Asked, Decides, asked_of}
use Rattle.ips_operations.specs.changing.Deciding.{IsDecisionOrFault, IsLoaded}
use Rattle.ips_operations.specs.changing.Leads.{LeadsWhere}

-- ---- where nothing is changed

-- It is refused, or there is nothing to do.
abbrev pub HasNoChange : Decision Outcome → Type 0
HasNoChange (decision.Change c) = ⊥
HasNoChange decision.Nothing = Unit {0}
HasNoChange (decision.Shown told) = ⊥
HasNoChange (decision.Refused told) = Unit {0}

-- The same of an answer, which is no fault of the folder either.
abbrev IsRefusal : Answer → Type 0
IsRefusal (Ok d) = HasNoChange d
IsRefusal (Err (Bad decide.FolderFault)) = ⊥
IsRefusal (Err (Bad decide.SourceFault)) = Unit {0}
IsRefusal (Err OutOfMemory) = Unit {0}

refusal : (r : Answer) → IsRefusal r → IfOk r HasNoChange
refusal (Ok d) is = is
refusal (Err e) is = tt

no_folder_fault : (r : Answer) → IsRefusal r → r ≡ Err (Bad decide.FolderFault) → ⊥
no_folder_fault r is e = subst IsRefusal e is

of_effect : (d : Decision Outcome) → HasNoChange d → IsOfEffect Changes d
of_effect (decision.Change c) is = absurd is
of_effect decision.Nothing is = refl
of_effect (decision.Shown told) is = absurd is
of_effect (decision.Refused told) is = tt

no_change : (P : Change Outcome → Type 0) (d : Decision Outcome) → HasNoChange d → IfChange P d
no_change P (decision.Change c) is = absurd is
no_change P decision.Nothing is = tt
no_change P (decision.Shown told) is = tt
no_change P (decision.Refused told) is = tt

-- ---- the records

unread : (e : Or StateFault) → IfOk (unread_told e) HasNoChange
unread (Bad state.NoImage) = tt
unread (Bad (state.BadImage file line)) = tt
unread (Bad (state.TooLarge which count)) = tt
unread (Bad state.FolderFault) = tt
unread OutOfMemory = tt

pub unread_nothing : (e : Or StateFault) (r : Answer) → r ≡ unread_told e → IfOk r HasNoChange
unread_nothing e r is = subst (λ (x : Answer). IfOk x HasNoChange) (sym is) (unread e)

pub unread_folder : (e : Or StateFault) → unread_told e ≡ Err (Bad decide.FolderFault) → e ≡ Bad state.FolderFault
unread_folder (Bad state.NoImage) h = cc
unread_folder (Bad (state.BadImage file line)) h = cc
unread_folder (Bad (state.TooLarge which count)) h = cc
unread_folder (Bad state.FolderFault) h = refl
unread_folder OutOfMemory h = cc

pub unread_source : (e : Or StateFault) → unread_told e ≡ Err (Bad decide.SourceFault) → ⊥
unread_source (Bad state.NoImage) h = cc
unread_source (Bad (state.BadImage file line)) h = cc
unread_source (Bad (state.TooLarge which count)) h = cc
unread_source (Bad state.FolderFault) h = cc
unread_source OutOfMemory h = cc

-- ---- the next state

unled : (e : Or NextFault) → IsRefusal (unled_told e)
unled (Bad next.OldFormat) = tt
unled (Bad next.NoRepository) = tt
unled (Bad (next.BadCatalog fault)) = tt
unled (Bad (next.NoMatch pattern)) = tt
unled (Bad (next.Ambiguous pattern stems)) = tt
unled (Bad (next.ManifestMissing fmri)) = tt
unled (Bad (next.BadManifest fmri fault)) = tt
unled (Bad (next.BadDepend fmri line)) = tt
unled (Bad (next.TooLarge which count)) = tt
unled (Bad (next.NoSolution stems refutation)) = tt
unled (Bad (next.SearchSpent limit)) = tt
unled (Bad next.NothingToDo) = tt
unled (Bad next.SourceFault) = tt
unled OutOfMemory = tt

pub unled_nothing : (e : Or NextFault) (r : Answer) → r ≡ unled_told e → IfOk r HasNoChange
unled_nothing e r is = refusal r (subst IsRefusal (sym is) (unled e))

pub unled_folder : (e : Or NextFault) (r : Answer) → r ≡ unled_told e → r ≡ Err (Bad decide.FolderFault) → ⊥
unled_folder e r is failed = no_folder_fault r (subst IsRefusal (sym is) (unled e)) failed

-- ---- the plan

unplanned : (e : Or PlanFault) → IfSome (unplanned_told e) (λ r. IfOk r HasNoChange)
unplanned (Bad (plan.Reserved path)) = tt
unplanned (Bad (plan.Clash clash)) = tt
unplanned (Bad (plan.BadAccountLine book line)) = tt
unplanned (Bad (plan.IdTaken id)) = tt
unplanned (Bad (plan.UnknownOwner path name)) = tt
unplanned (Bad (plan.LicenseNeeded list)) = tt
unplanned (Bad (plan.Unmovable path)) = tt
unplanned (Bad (plan.Payload name repo.NoRepository)) = tt
unplanned (Bad (plan.Payload name (repo.BadCatalog fault))) = tt
unplanned (Bad (plan.Payload name repo.ManifestMissing)) = tt
unplanned (Bad (plan.Payload name (repo.BadManifest fault))) = tt
unplanned (Bad (plan.Payload name repo.PayloadMissing)) = tt
unplanned (Bad (plan.Payload name (repo.PayloadDamaged found))) = tt
unplanned (Bad (plan.Payload name (repo.Compressed found))) = tt
unplanned (Bad (plan.Payload name (repo.TooLarge which count))) = tt
unplanned (Bad (plan.Payload name repo.SourceFault)) = tt
unplanned (Bad (plan.TooLarge which count)) = tt
unplanned (Bad plan.SourceFault) = tt
unplanned (Bad plan.FolderFault) = tt
unplanned OutOfMemory = tt

pub unplanned_nothing : (e : Or PlanFault) (r : Answer) → unplanned_told e ≡ Some r → IfOk r HasNoChange
unplanned_nothing e r is = subst (λ (o : Option Answer). IfSome o (λ x. IfOk x HasNoChange)) is (unplanned e)

-- ---- a decision

module _ {F S : Type 0} (o : Outside F) (q : Outside S) where
  -- a state that was loaded by looks at the folder
  pub loaded_behind : (folder later : F) (failed : Type 0) (old : State) → Reads o folder later failed → (IsTrue (o.tells folder) → (o.state folder).held.look gate_name ≡ None) → IsLawful (recorded old)
      → (IsTrue (o.tells folder) → Holds (o.state folder).held (recorded old)) → IsLoaded o later old
  loaded_behind folder later failed old run shut lawful holds = record {
    shut = λ tells. subst (λ (s : outside.State). s.held.look gate_name ≡ None) (sym run.kept) (shut (sym run.call.same_kind ∙ tells));
    lawful = lawful;
    holds = λ tells. subst (λ (s : outside.State). Holds s.held (recorded old)) (sym run.kept) (holds (sym run.call.same_kind ∙ tells));
  }

  module _ (c : Command) (moment : ℕ) where
    -- nothing is changed
    pub nothing_changed : (folder later : F) (repository after : S) (answer : Answer) → IfOk answer HasNoChange
        → (IsTrue (o.tells folder) → IfOk answer (Decides (asked_of c moment (q.tells repository) (q.state repository).held (o.state folder).held))) → IfOk answer IsToldAs
        → Reads o folder later (answer ≡ Err (Bad decide.FolderFault)) → Reads q repository after (answer ≡ Err (Bad decide.SourceFault)) → IsDecisionOrFault o q c moment folder later repository after answer
    nothing_changed folder later repository after answer none decided says reads source = record {
      decided = decided;
      of_effect = IfOk-weaker answer HasNoChange (IsOfEffect Changes) of_effect none;
      says = says;
      lists = IfOk-weaker answer HasNoChange (IfChange CanBeListed) (no_change CanBeListed) none;
      planned = λ tells. let IsIt = IsPlanned (LeadsWhere c moment) (q.tells repository) (q.state repository).held (o.state folder).held in IfOk-weaker answer HasNoChange (IfChange IsIt) (no_change IsIt) none;
      reads = reads;
      source = source;
    }

    -- memory ran out before any call
    pub starved_before : (folder : F) (repository : S) → IsDecisionOrFault o q c moment folder folder repository repository (Err OutOfMemory)
    starved_before folder repository = nothing_changed folder folder repository repository (Err OutOfMemory) tt (λ tells. tt) tt (reads_none o folder _ (λ e. never decide.FolderFault e)) (reads_none q repository _ (λ e. never decide.SourceFault e))
      where
        never : (f : DecideFault) → ◌≡◌ {A = Answer} (Err OutOfMemory) (Err (Bad f)) → ⊥
        never f e = cc

    -- behind calls that only look and didn't fail
    pub decided_behind : (folder mid later : F) (repository between after : S) (failed missed : Type 0) (answer : Answer) → Reads o folder mid failed → (failed → ⊥) → Reads q repository between missed → (missed → ⊥)
        → IsDecisionOrFault o q c moment mid later between after answer → IsDecisionOrFault o q c moment folder later repository after answer
    decided_behind folder mid later repository between after failed missed answer looks unfailed asks unmissed is = record {
      decided = λ tells. subst (λ (a : Asked). IfOk answer (Decides a)) same (is.decided (looks.call.same_kind ∙ tells));
      of_effect = is.of_effect;
      says = is.says;
      lists = is.lists;
      planned = λ tells. subst (λ (a : Asked). IfOk answer (IfChange (IsPlanned (LeadsWhere c moment) a.tells a.repository a.image))) same (is.planned (looks.call.same_kind ∙ tells));
      reads = reads_behind o folder mid later failed _ looks unfailed is.reads;
      source = reads_behind q repository between after missed _ asks unmissed is.source;
    }
      where
        same : asked_of c moment (q.tells between) (q.state between).held (o.state mid).held ≡ asked_of c moment (q.tells repository) (q.state repository).held (o.state folder).held
        same = λ i. record { command = c; moment = moment; tells = asks.call.same_kind i; repository = (asks.kept i).held; image = (looks.kept i).held }
