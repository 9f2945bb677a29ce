-- From an ending to the outcome that is told: what is claimed, whose fault it is, and under which cause it comes.
use Rattle.std.proofs.Common.{◌≡◌, ◌⊎◌, inl, inr, ℕ, Bool, true, false, IsTrue, List, [], None, refl, sym, ◌∙◌, ap, subst, map}
use Rattle.ips_steps.proofs.Lists.{clash}
use Rattle.ips_steps.specs.Private.{gate_name}
use Rattle.ips_outside.specs.Image.{Image}
use Rattle.ips_outside.specs.Outside.{Outside}
use Rattle.ips_outside.specs.Running.{Run}
use Rattle.ips_kinds.specs.Tallies.{Carrier}
use Rattle.ips_steps.specs.Steps.{Step}
use Rattle.ips_steps.specs.View.{step_of}
use Rattle.ips_history.specs.Run.{Claim, IsRun, StaysShut}
use Rattle.ips_history.specs.Transition.{CreatingInPart}
use Rattle.ips_history.specs.Directories.{creates}
use Rattle.ips_history.specs.declared.effect.Effect.{Effect}
use Rattle.ips_report.specs.declared.outcome.Outcome.{Outcome}
use Rattle.ips_report.specs.declared.outcome.Outcome.TheVariants as outcome
use Rattle.ips_run.specs.declared.operation.Decision.{Decision}
use Rattle.ips_run.specs.declared.operation.Decision.TheVariants as decision
use Rattle.ips_run.specs.declared.ending.Ending.{Ending}
use Rattle.ips_run.specs.declared.ending.Ending.TheVariants as ending
use Rattle.ips_run.specs.Ending.{HasPayloadFault, TellsAsSaid, claim_of, is_done, is_failed, is_folder_fault, is_left, is_refused, is_source_fault, is_spawn_fault, is_unneeded}
use Rattle.ips_run.specs.Comes.{Comes, IsBackTo, IsCarriedTo, IsUnopened}
use Rattle.ips_run.specs.Comes as comes
use Rattle.ips_run.proofs.Leaving.{comes_leaving}
use Rattle.ips_tell.specs.told.Told.{IsToldAs, Manner, blames_folder, blames_source, blames_spawner, claimed, claims_done, claims_failed, claims_refused, claims_unfinished, manner_of, told_as}
use Rattle.ips_tell.proofs.told.Alike.{manner_as, manner_told, claims_as, blames_folder_as, blames_source_as, blames_spawner_as}
use Rattle.ips_tell.specs.telling.Finishing.{IsEarly, IsToldFor}
use Rattle.ips_tell.specs.performing.Performed.{ComesAs}

-- ---- which endings are early

-- One that comes before the gate is looked at isn't.
unopened_late : (x : Ending Outcome) → IsUnopened x → IsEarly (manner_as x) → ⊥
unopened_late (ending.Done told) is now = now
unopened_late (ending.Shown told) is now = is
unopened_late (ending.Refused told) is now = is
unopened_late ending.NothingToDo is now = is
unopened_late ending.Unfinished is now = now
unopened_late (ending.BadJournal line) is now = now
unopened_late (ending.Recovered forward) is now = now
unopened_late (ending.NotDirectory path) is now = is
unopened_late (ending.BadPayload name why) is now = is
unopened_late (ending.ActuatorFailed after words status) is now = now
unopened_late (ending.SpawnFault after) is now = now
unopened_late ending.SourceFault is now = now
unopened_late (ending.FolderFault unfinished) is now = now
unopened_late ending.OutOfMemory is now = now

-- Nor is one that brings to an end what was stopped.
back_late : (x : Ending Outcome) (held left : Image) (old counted : List Carrier) → IsBackTo held left old counted x → IsEarly (manner_as x) → ⊥
back_late (ending.Done told) held left old counted is now = now
back_late (ending.Shown told) held left old counted is now = is
back_late (ending.Refused told) held left old counted is now = is
back_late ending.NothingToDo held left old counted is now = is
back_late ending.Unfinished held left old counted is now = now
back_late (ending.BadJournal line) held left old counted is now = now
back_late (ending.Recovered forward) held left old counted is now = now
back_late (ending.NotDirectory path) held left old counted is now = is
back_late (ending.BadPayload name why) held left old counted is now = is
back_late (ending.ActuatorFailed after words status) held left old counted is now = now
back_late (ending.SpawnFault after) held left old counted is now = now
back_late ending.SourceFault held left old counted is now = now
back_late (ending.FolderFault unfinished) held left old counted is now = now
back_late ending.OutOfMemory held left old counted is now = now

-- Nor is one of a change that is carried out.
carried_late : (x : Ending Outcome) (steps : List Step) (before behind : List (List (List ℕ))) (told : Outcome) (old counted : List Carrier) (Ran : List Run → Type 0) → IsCarriedTo steps before behind told old counted Ran x → IsEarly (manner_as x) → ⊥
carried_late (ending.Done told) steps before behind other old counted Ran is now = now
carried_late (ending.Shown told) steps before behind other old counted Ran is now = is
carried_late (ending.Refused told) steps before behind other old counted Ran is now = is
carried_late ending.NothingToDo steps before behind told old counted Ran is now = is
carried_late ending.Unfinished steps before behind told old counted Ran is now = now
carried_late (ending.BadJournal line) steps before behind told old counted Ran is now = now
carried_late (ending.Recovered forward) steps before behind told old counted Ran is now = now
carried_late (ending.NotDirectory path) steps before behind told old counted Ran is now = is
carried_late (ending.BadPayload name why) steps before behind told old counted Ran is now = is
carried_late (ending.ActuatorFailed after words status) steps before behind told old counted Ran is now = now
carried_late (ending.SpawnFault after) steps before behind told old counted Ran is now = now
carried_late ending.SourceFault steps before behind told old counted Ran is now = now
carried_late (ending.FolderFault unfinished) steps before behind told old counted Ran is now = now
carried_late ending.OutOfMemory steps before behind told old counted Ran is now = now

-- An early ending refuses.
early_refuses : (x : Ending Outcome) → IsEarly (manner_as x) → is_refused x ≡ true
early_refuses (ending.Done told) now = absurd now
early_refuses (ending.Shown told) now = refl
early_refuses (ending.Refused told) now = refl
early_refuses ending.NothingToDo now = refl
early_refuses ending.Unfinished now = absurd now
early_refuses (ending.BadJournal line) now = absurd now
early_refuses (ending.Recovered forward) now = absurd now
early_refuses (ending.NotDirectory path) now = refl
early_refuses (ending.BadPayload name why) now = refl
early_refuses (ending.ActuatorFailed after words status) now = absurd now
early_refuses (ending.SpawnFault after) now = absurd now
early_refuses ending.SourceFault now = absurd now
early_refuses (ending.FolderFault unfinished) now = absurd now
early_refuses ending.OutOfMemory now = absurd now

-- It leaves nothing unfinished.
early_begins_nothing : (x : Ending Outcome) → IsEarly (manner_as x) → is_left x ≡ false
early_begins_nothing (ending.Done told) now = absurd now
early_begins_nothing (ending.Shown told) now = refl
early_begins_nothing (ending.Refused told) now = refl
early_begins_nothing ending.NothingToDo now = refl
early_begins_nothing ending.Unfinished now = absurd now
early_begins_nothing (ending.BadJournal line) now = absurd now
early_begins_nothing (ending.Recovered forward) now = absurd now
early_begins_nothing (ending.NotDirectory path) now = refl
early_begins_nothing (ending.BadPayload name why) now = refl
early_begins_nothing (ending.ActuatorFailed after words status) now = absurd now
early_begins_nothing (ending.SpawnFault after) now = absurd now
early_begins_nothing ending.SourceFault now = absurd now
early_begins_nothing (ending.FolderFault unfinished) now = absurd now
early_begins_nothing ending.OutOfMemory now = absurd now

-- No call on the image failed with nothing left unfinished.
early_unfailed : (x : Ending Outcome) → IsEarly (manner_as x) → is_failed x ≡ false
early_unfailed (ending.Done told) now = absurd now
early_unfailed (ending.Shown told) now = refl
early_unfailed (ending.Refused told) now = refl
early_unfailed ending.NothingToDo now = refl
early_unfailed ending.Unfinished now = absurd now
early_unfailed (ending.BadJournal line) now = absurd now
early_unfailed (ending.Recovered forward) now = absurd now
early_unfailed (ending.NotDirectory path) now = refl
early_unfailed (ending.BadPayload name why) now = refl
early_unfailed (ending.ActuatorFailed after words status) now = absurd now
early_unfailed (ending.SpawnFault after) now = absurd now
early_unfailed ending.SourceFault now = absurd now
early_unfailed (ending.FolderFault unfinished) now = absurd now
early_unfailed ending.OutOfMemory now = absurd now

-- It isn't the folder's fault.
early_folder : (x : Ending Outcome) → IsEarly (manner_as x) → is_folder_fault x ≡ false
early_folder (ending.Done told) now = absurd now
early_folder (ending.Shown told) now = refl
early_folder (ending.Refused told) now = refl
early_folder ending.NothingToDo now = refl
early_folder ending.Unfinished now = absurd now
early_folder (ending.BadJournal line) now = absurd now
early_folder (ending.Recovered forward) now = absurd now
early_folder (ending.NotDirectory path) now = refl
early_folder (ending.BadPayload name why) now = refl
early_folder (ending.ActuatorFailed after words status) now = absurd now
early_folder (ending.SpawnFault after) now = absurd now
early_folder ending.SourceFault now = absurd now
early_folder (ending.FolderFault unfinished) now = absurd now
early_folder ending.OutOfMemory now = absurd now

-- Nor the source's.
early_source : (x : Ending Outcome) → IsEarly (manner_as x) → is_source_fault x ≡ false
early_source (ending.Done told) now = absurd now
early_source (ending.Shown told) now = refl
early_source (ending.Refused told) now = refl
early_source ending.NothingToDo now = refl
early_source ending.Unfinished now = absurd now
early_source (ending.BadJournal line) now = absurd now
early_source (ending.Recovered forward) now = absurd now
early_source (ending.NotDirectory path) now = refl
early_source (ending.BadPayload name why) now = refl
early_source (ending.ActuatorFailed after words status) now = absurd now
early_source (ending.SpawnFault after) now = absurd now
early_source ending.SourceFault now = absurd now
early_source (ending.FolderFault unfinished) now = absurd now
early_source ending.OutOfMemory now = absurd now

-- Nor the spawner's.
early_spawner : (x : Ending Outcome) → IsEarly (manner_as x) → is_spawn_fault x ≡ false
early_spawner (ending.Done told) now = absurd now
early_spawner (ending.Shown told) now = refl
early_spawner (ending.Refused told) now = refl
early_spawner ending.NothingToDo now = refl
early_spawner ending.Unfinished now = absurd now
early_spawner (ending.BadJournal line) now = absurd now
early_spawner (ending.Recovered forward) now = absurd now
early_spawner (ending.NotDirectory path) now = refl
early_spawner (ending.BadPayload name why) now = refl
early_spawner (ending.ActuatorFailed after words status) now = absurd now
early_spawner (ending.SpawnFault after) now = absurd now
early_spawner ending.SourceFault now = absurd now
early_spawner (ending.FolderFault unfinished) now = absurd now
early_spawner ending.OutOfMemory now = absurd now

-- ---- what an early ending comes of

module _ {effect : Effect} {decides : Decision Outcome → Type 0} {tells : Bool} {repository held left : Image} {old now : List Carrier} {Ran : List Run → Type 0} where
  -- The gate is closed, nothing is counted and nothing was run.
  pub early_comes : (x : Ending Outcome) → Comes effect decides tells repository held left old now Ran x → IsEarly (manner_as x) → (held.look gate_name ≡ None) × ((now ≡ old) × Ran [])
  early_comes x (comes.Unopened is leaves counted ran) early = absurd (unopened_late x is early)
  early_comes x (comes.Unfinished none stands kept counted ran) early = absurd early
  early_comes x (comes.Back fixes stopped is ran) early = absurd (back_late x held left old now is early)
  early_comes x (comes.NotDirectory creates shut first kept counted ran) early = (shut, (counted, ran))
  early_comes x (comes.Unready decided is leaves counted ran) early = (decided.0, (counted, ran))
  early_comes x (comes.Carried c shows decided is intact leaves carried) early = absurd (carried_late x (map step_of c.steps.items) c.before.items c.after.items c.told old now Ran carried early)

  -- So want of memory may come in its place.
  pub starves : (x : Ending Outcome) → Comes effect decides tells repository held left old now Ran x → IsEarly (manner_as x) → Comes effect decides tells repository held left old now Ran ending.OutOfMemory
  starves x is early =
      let known = early_comes x is early in
      let leaves = comes_leaving x is in
      comes.Unopened tt (record { withdrawn = λ no. cc; no_more = λ refused unfailed. leaves.no_more (early_refuses x early) (early_unfailed x early) }) known.1.0 known.1.1

  -- What is told has come.
  pub comes_as : (x : Ending Outcome) (o : Outcome) → TellsAsSaid IsToldAs x → HasPayloadFault x → Comes effect decides tells repository held left old now Ran x → IsToldFor (told_as x) o → ComesAs (Comes effect decides tells repository held left old now Ran) o
  comes_as x o says payload is (inl same) = (x, same, is)
  comes_as x o says payload is (inr early) = (ending.OutOfMemory, early.1, starves x is (subst IsEarly (manner_told x says payload) early.0))

-- ---- what is claimed

-- The claim that what is seen is as before, and perhaps that nothing is to do.
abbrev pub refusing : Bool → Claim
refusing nothing = record { done = false; refused = true; nothing = nothing; recovered = None; unfinished = false; bad_journal = false; out_of_memory = false; failed = false }

-- An early ending claims just that.
claims_little : (x : Ending Outcome) → IsEarly (manner_as x) → claim_of x ≡ refusing (is_unneeded x)
claims_little (ending.Done told) now = absurd now
claims_little (ending.Shown told) now = refl
claims_little (ending.Refused told) now = refl
claims_little ending.NothingToDo now = refl
claims_little ending.Unfinished now = absurd now
claims_little (ending.BadJournal line) now = absurd now
claims_little (ending.Recovered forward) now = absurd now
claims_little (ending.NotDirectory path) now = refl
claims_little (ending.BadPayload name why) now = refl
claims_little (ending.ActuatorFailed after words status) now = absurd now
claims_little (ending.SpawnFault after) now = absurd now
claims_little ending.SourceFault now = absurd now
claims_little (ending.FolderFault unfinished) now = absurd now
claims_little ending.OutOfMemory now = absurd now

module _ {F : Type 0} (o : Outside F) (means : Image → Image → Type 0) (effect : Effect) {before now : List Carrier} {old new : F} where
  -- Where memory for its report is wanted, all that is claimed then holds.
  starved : (nothing : Bool) → (o.state old).held.look gate_name ≡ None → IsRun o means effect (refusing nothing) before now old new → IsRun o means effect (claimed (manner_of outcome.OutOfMemory)) before now old new
  starved nothing shut run = record {
    transition = run.transition;
    recovered = tt;
    unseen = run.unseen;
    unopened = run.unopened;
    unneeded = λ is. clash false is refl;
    readable = λ is. clash false is refl;
    out_of_memory = λ _. inr (stays (run.unopened refl shut));
    resumes = λ is. clash false is refl;
    opened = run.opened;
  }
    where
      stays : StaysShut o old new ⊎ (IsTrue (creates effect) × (IsTrue false × CreatingInPart o old new)) → StaysShut o old new
      stays (inl still) = still
      stays (inr part) = clash false part.1.0 refl

  -- What is told claims what holds.
  pub run_told : (x : Ending Outcome) (told : Outcome) → TellsAsSaid IsToldAs x → HasPayloadFault x → (IsEarly (manner_as x) → (o.state old).held.look gate_name ≡ None) → IsToldFor (told_as x) told
      → IsRun o means effect (claim_of x) before now old new → IsRun o means effect (claimed (manner_of told)) before now old new
  run_told x told says payload shut (inl same) run =
      subst (λ (c : Claim). IsRun o means effect c before now old new) (sym (ap (λ (m : Manner). claimed m) (ap manner_of same ∙ manner_told x says payload) ∙ claims_as x)) run
  run_told x told says payload shut (inr early) run =
      let is : IsEarly (manner_as x) = subst IsEarly (manner_told x says payload) early.0 in
      subst (λ (m : Manner). IsRun o means effect (claimed m) before now old new) (sym (ap manner_of early.1))
      (starved (is_unneeded x) (shut is) (subst (λ (c : Claim). IsRun o means effect c before now old new) (claims_little x is) run))

-- What is told as done is what was done.
pub listed_as : (P : Ending Outcome → Type 0) (x : Ending Outcome) (o : Outcome) → (is_done x ≡ true → P x) → TellsAsSaid IsToldAs x → HasPayloadFault x → IsToldFor (told_as x) o → claims_done (manner_of o) ≡ true → ComesAs P o
listed_as P x o is says payload (inl same) done = (x, same, is (sym (ap (λ (c : Claim). c.done) (ap (λ (m : Manner). claimed m) (ap manner_of same ∙ manner_told x says payload) ∙ claims_as x)) ∙ done))
listed_as P x o is says payload (inr early) done = absurd (clash (claims_done (manner_of o)) done (ap (λ (k : Outcome). claims_done (manner_of k)) early.1))

-- ---- what is told of a fault, of what is left and of what is seen

module _ (x : Ending Outcome) (told : Outcome) (says : TellsAsSaid IsToldAs x) (payload : HasPayloadFault x) where
  -- Whatever is told of a manner and of want of memory alike is told of the ending.
  told_alike : (f : Manner → Bool) (b : Bool) → f (manner_as x) ≡ b → (IsEarly (manner_as x) → f (manner_of outcome.OutOfMemory) ≡ b) → IsToldFor (told_as x) told → f (manner_of told) ≡ b
  told_alike f b is late (inl same) = ap f (ap manner_of same ∙ manner_told x says payload) ∙ is
  told_alike f b is late (inr early) = ap f (ap manner_of early.1) ∙ late (subst IsEarly (manner_told x says payload) early.0)

  pub folder_alike : IsToldFor (told_as x) told → blames_folder (manner_of told) ≡ is_folder_fault x
  folder_alike = told_alike blames_folder (is_folder_fault x) (blames_folder_as x) (λ early. sym (early_folder x early))

  pub source_alike : IsToldFor (told_as x) told → blames_source (manner_of told) ≡ is_source_fault x
  source_alike = told_alike blames_source (is_source_fault x) (blames_source_as x) (λ early. sym (early_source x early))

  pub spawner_alike : IsToldFor (told_as x) told → blames_spawner (manner_of told) ≡ is_spawn_fault x
  spawner_alike = told_alike blames_spawner (is_spawn_fault x) (blames_spawner_as x) (λ early. sym (early_spawner x early))

  pub unfinished_alike : IsToldFor (told_as x) told → claims_unfinished (manner_of told) ≡ is_left x
  unfinished_alike = told_alike claims_unfinished (is_left x) (ap (λ (c : Claim). c.unfinished) (claims_as x)) (λ early. sym (early_begins_nothing x early))

  pub failed_alike : IsToldFor (told_as x) told → claims_failed (manner_of told) ≡ is_failed x
  failed_alike = told_alike claims_failed (is_failed x) (ap (λ (c : Claim). c.failed) (claims_as x)) (λ early. sym (early_unfailed x early))

  pub refused_alike : IsToldFor (told_as x) told → claims_refused (manner_of told) ≡ is_refused x
  refused_alike = told_alike claims_refused (is_refused x) (ap (λ (c : Claim). c.refused) (claims_as x)) (λ early. sym (early_refuses x early))

-- ---- what is said of decisions

-- What is told as one says is told as another says, of whom less is asked.
pub says_less : (P Q : Decision Outcome → Type 0) → ((d : Decision Outcome) → P d → Q d) → (x : Ending Outcome) → TellsAsSaid P x → TellsAsSaid Q x
says_less P Q less (ending.Done told) says = (says.0, less (decision.Change says.0) says.1, says.2)
says_less P Q less (ending.Shown told) says = less (decision.Shown told) says
says_less P Q less (ending.Refused told) says = less (decision.Refused told) says
says_less P Q less ending.NothingToDo says = tt
says_less P Q less ending.Unfinished says = tt
says_less P Q less (ending.BadJournal line) says = tt
says_less P Q less (ending.Recovered forward) says = tt
says_less P Q less (ending.NotDirectory path) says = tt
says_less P Q less (ending.BadPayload name why) says = tt
says_less P Q less (ending.ActuatorFailed after words status) says = tt
says_less P Q less (ending.SpawnFault after) says = tt
says_less P Q less ending.SourceFault says = tt
says_less P Q less (ending.FolderFault unfinished) says = tt
says_less P Q less ending.OutOfMemory says = tt
