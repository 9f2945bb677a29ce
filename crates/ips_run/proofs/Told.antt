-- What a request did, by its ending: what was decided, which actuators were run, and what was laid.
use Rattle.std.proofs.Common.{◌≡◌, inl, inr, arith, ℕ, ◌≤◌, Bool, true, false, IsTrue, List, [], ◌∷◌, ◌++◌, length, map, take, slice_get, Some, Err, append_assoc, append-nil, refl, sym, ◌∙◌, ap, subst}
use Rattle.std.proofs.lemmas.Option.{slice_get_cases}
use Rattle.ips_outside.specs.Image.{Image}
use Rattle.ips_outside.specs.State.{State}
use Rattle.ips_outside.specs.Running.{Run, Running}
use Rattle.ips_outside.specs.Outside.{HasCause}
use Rattle.ips_outside.proofs.Faults.{cause_as}
use Rattle.ips_steps.specs.Steps.{Step, all_laid}
use Rattle.ips_steps.specs.Private.{visible}
use Rattle.ips_steps.specs.View.{step_of}
use Rattle.ips_steps.proofs.Lists.{clash}
use Rattle.ips_kinds.specs.Tallies.{Carrier, all_counted}
use Rattle.ips_actuate.specs.Running.{succeeded, Ends, IsFaultOfRun, IsSpawn}
use Rattle.ips_actuate.specs.declared.running.ActFault.{ActFault}
use Rattle.ips_actuate.specs.declared.running.ActFault.TheVariants as act_fault
use Rattle.ips_commit.specs.Answers.{IsToldOrMasked}
use Rattle.ips_contents.specs.Contents.{AreIntactContents}
use Rattle.ips_commit.proofs.Masked.{told_own, told_other}
use Rattle.ips_commit.specs.Staging.{HasStaged}
use Rattle.ips_commit.specs.declared.fault.CommitFault.{CommitFault}
use Rattle.ips_commit.specs.declared.fault.CommitFault.TheVariants as commit_fault
use Rattle.ips_history.specs.Directories.{shows}
use Rattle.ips_history.specs.declared.effect.Effect.{Effect}
use Rattle.ips_run.specs.declared.operation.Change.{Change}
use Rattle.ips_run.specs.declared.operation.Decision.{Decision}
use Rattle.ips_run.specs.declared.operation.Decision.TheVariants as decision
use Rattle.ips_run.specs.declared.ending.Ending.{Ending}
use Rattle.ips_run.specs.declared.ending.Ending.TheVariants as ending
use Rattle.ips_run.specs.Ending.{is_left, is_failed, is_folder_fault, is_source_fault, is_spawn_fault}
use Rattle.ips_run.specs.declared.preparing.Prepared.{Prepared}
use Rattle.ips_run.specs.Planned.{IsPlanned}
use Rattle.ips_run.specs.Comes.{HasRun, IsUnready, IsGivenUp, IsCarriedTo}
use Rattle.ips_run.specs.Phases.{uncommitted_as, IsUnrun, IsUnrunBefore, Failed, Spawn, IsUnstaged, IsReadied}

-- nothing is run
pub none_run : {P : Type 0} (r : Running P) (p : P) → HasRun r p p []
none_run r p = λ tells. sym (append-nil (r.ran p))

-- a payload, or a call, of a change that was decided on
pub unready_from : {T : Type 0} (effect : Effect) (decides : Decision T → Type 0) (tells : Bool) (repository : Image) (c : Change T) (x : Ending T) → shows effect ≡ false → decides (decision.Change c)
    → IsUnstaged tells repository c x → IsUnready effect decides tells repository x
unready_from effect decides tells repository c (ending.BadPayload name fault) changes decided says = (changes, (c, decided, says))
unready_from effect decides tells repository c ending.SourceFault changes decided says = changes
unready_from effect decides tells repository c (ending.FolderFault unfinished) changes decided says = says
unready_from effect decides tells repository c ending.OutOfMemory changes decided says = tt
unready_from effect decides tells repository c (ending.Done told) changes decided says = absurd says
unready_from effect decides tells repository c (ending.Shown told) changes decided says = absurd says
unready_from effect decides tells repository c (ending.Refused told) changes decided says = absurd says
unready_from effect decides tells repository c ending.NothingToDo changes decided says = absurd says
unready_from effect decides tells repository c ending.Unfinished changes decided says = absurd says
unready_from effect decides tells repository c (ending.BadJournal line) changes decided says = absurd says
unready_from effect decides tells repository c (ending.Recovered forward) changes decided says = absurd says
unready_from effect decides tells repository c (ending.ActuatorFailed after words status) changes decided says = absurd says
unready_from effect decides tells repository c (ending.SpawnFault after) changes decided says = absurd says
unready_from effect decides tells repository c (ending.NotDirectory path) changes decided says = absurd says

module _ {P : Type 0} (r : Running P) (steps : List Step) (before behind : List (List (List ℕ))) (start : List Carrier) {T : Type 0} (told : T) where
  -- what was run of a list, where one of it had a fault
  abbrev RanTo : P → P → List (List (List ℕ)) → ActFault → Type 0
  RanTo old new list why = IsTrue (r.tells old) → (ran : List Run) × (r.ran new ≡ r.ran old ++ ran) × Ends list ran (Err why)

  failed_ran : (list : List (List (List ℕ))) (index status : ℕ) (words : List (List ℕ)) (ran : List Run) → slice_get list index ≡ Some words → Ends list ran (Err (act_fault.Failed index status))
      → ran ≡ map succeeded (take index list) ++ record { words = words; status = status } ∷ []
  failed_ran list index status words ran at (w, stood, bad, is) =
      let same : w ≡ words = some_same (sym stood ∙ at) in
      is ∙ ap (λ (v : List (List ℕ)). map succeeded (take index list) ++ record { words = v; status = status } ∷ []) same
    where
      some_same : {a b : List (List ℕ)} → Some a ≡ Some b → a ≡ b
      some_same e = cc

  pub told_unrun : (old new : P) (slice : List (List (List ℕ))) → slice ≡ before → (why : ActFault) (x : Ending T) → IsFaultOfRun slice why → IsUnrun before false why x → RanTo old new slice why
      → IsCarriedTo steps before behind told start start (HasRun r old new) x
  told_unrun old new slice same why x within is ran =
      go why x is (subst (λ (l : List (List (List ℕ))). IsFaultOfRun l why) same within) (subst (λ (l : List (List (List ℕ))). RanTo old new l why) same ran)
    where
      go : (why : ActFault) (x : Ending T) → IsUnrun before false why x → IsFaultOfRun before why → RanTo old new before why → IsCarriedTo steps before behind told start start (HasRun r old new) x
      go why x (Failed {index = index} {status = status} {words = words} at) within ran = record {
        index = index;
        stands = at;
        failed = within.1;
        counted = refl;
        ran = λ tells. let (runs, is, ends) = ran tells in is ∙ ap (λ (l : List Run). r.ran old ++ l) (failed_ran before index status words runs at ends);
      }
      go why x (Spawn {index = index}) within ran = record {
        index = index;
        within = within;
        counted = refl;
        ran = λ tells. let (runs, is, (w, at, ends)) = ran tells in is ∙ ap (λ (l : List Run). r.ran old ++ l) ends;
      }

  -- the same where what stands ready was to be taken away then, and a call failed
  given_up : (old new : P) (why : ActFault) → IsFaultOfRun before why → RanTo old new before why → IsGivenUp steps before behind start start (HasRun r old new)
  given_up old new (act_fault.Failed index status) within ran = elim (slice_get_cases before index).1 [
    | inl there ↦ inl (
      there.0,
      status,
      record {
        index = index;
        stands = there.2;
        failed = within.1;
        counted = refl;
        ran = λ tells. let (runs, is, ends) = ran tells in is ∙ ap (λ (l : List Run). r.ran old ++ l) (failed_ran before index status there.0 runs there.2 ends);
      },
    )
    | inr past ↦ absurd (omega (arith, past.0, within.0))
  ]
  given_up old new (act_fault.Spawn index) within ran = inr (record {
    index = index;
    within = within;
    counted = refl;
    ran = λ tells. let (runs, is, (w, at, ends)) = ran tells in is ∙ ap (λ (l : List Run). r.ran old ++ l) ends;
  })

  pub told_before : (old new : P) (slice : List (List (List ℕ))) → slice ≡ before → (why : ActFault) (x : Ending T) → IsFaultOfRun slice why → IsUnrunBefore before why x → RanTo old new slice why
      → IsCarriedTo steps before behind told start start (HasRun r old new) x
  told_before old new slice same why x within (inl unrun) ran = told_unrun old new slice same why x within unrun ran
  told_before old new slice same why x within (inr is) ran = subst (λ (e : Ending T). IsCarriedTo steps before behind told start start (HasRun r old new) e) (sym is)
      (inr (refl, given_up old new why (subst (λ (l : List (List (List ℕ))). IsFaultOfRun l why) same within) (subst (λ (l : List (List (List ℕ))). RanTo old new l why) same ran)))

  -- all of the list was run
  abbrev RanAll : P → P → List (List (List ℕ)) → Type 0
  RanAll old new list = IsTrue (r.tells old) → (ran : List Run) × (r.ran new ≡ r.ran old ++ ran) × (ran ≡ map succeeded list)

  all_ran : (old mid : P) (slice list : List (List (List ℕ))) → slice ≡ list → RanAll old mid slice → HasRun r old mid (map succeeded list)
  all_ran old mid slice list same ran = λ tells. let (runs, is, all) = ran tells in is ∙ ap (λ (l : List Run). r.ran old ++ l) (all ∙ ap (λ (l : List (List (List ℕ))). map succeeded l) same)

  pub told_part : (old mid : P) (slice : List (List (List ℕ))) → slice ≡ before → (now : List Carrier) (why : CommitFault) (x : Ending T) (laid : ℕ) → RanAll old mid slice → why ≡ commit_fault.Unfinished → x ≡ uncommitted_as why
      → laid ≤ length steps → now ≡ all_counted (take laid steps) start → IsCarriedTo steps before behind told start now (HasRun r old mid) x
  told_part old mid slice same now why x laid ran unfinished is few counted = subst (λ (e : Ending T). IsCarriedTo steps before behind told start now (HasRun r old mid) e)
      (sym (is ∙ ap (λ (w : CommitFault). uncommitted_as w) unfinished)) (inl (refl, record { laid = laid; few = few; counted = counted; ran = all_ran old mid slice before same ran }))

  module _ (old mid new : P) (same_kind : r.tells mid ≡ r.tells old) (slice : List (List (List ℕ))) (same : slice ≡ before) (first : RanAll old mid slice) (now : List Carrier) (counted : now ≡ all_counted steps start) where
    both_ran : (more : List Run) → IsTrue (r.tells old) → r.ran new ≡ r.ran mid ++ more → r.ran new ≡ r.ran old ++ (map succeeded before ++ more)
    both_ran more tells is = is ∙ ap (λ (l : List Run). l ++ more) (all_ran old mid slice before same first tells) ∙ append_assoc (r.ran old) (map succeeded before) more

    pub told_done : (last : List (List (List ℕ))) → last ≡ behind → RanAll mid new last → IsCarriedTo steps before behind told start now (HasRun r old new) (ending.Done told)
    told_done last same_last second = (
      refl,
      record {
        counted = counted;
        ran = λ tells. both_ran (map succeeded behind) tells (all_ran mid new last behind same_last second (same_kind ∙ tells));
      },
    )

    pub told_but : (last : List (List (List ℕ))) → last ≡ behind → (why : ActFault) (x : Ending T) → IsFaultOfRun last why → IsUnrun behind true why x → RanTo mid new last why
        → IsCarriedTo steps before behind told start now (HasRun r old new) x
    told_but last same_last why x within is ran =
        go why x is (subst (λ (l : List (List (List ℕ))). IsFaultOfRun l why) same_last within) (subst (λ (l : List (List (List ℕ))). RanTo mid new l why) same_last ran)
      where
        go : (why : ActFault) (x : Ending T) → IsUnrun behind true why x → IsFaultOfRun behind why → RanTo mid new behind why → IsCarriedTo steps before behind told start now (HasRun r old new) x
        go why x (Failed {index = index} {status = status} {words = words} at) within ran = record {
          index = index;
          stands = at;
          failed = within.1;
          counted = counted;
          ran = λ tells.
              let (runs, is, ends) = ran (same_kind ∙ tells) in
              let last_run : List Run = record { words = words; status = status } ∷ [] in
              both_ran runs tells is
              ∙ ap (λ (l : List Run). r.ran old ++ (map succeeded before ++ l)) (failed_ran behind index status words runs at ends)
              ∙ ap (λ (l : List Run). r.ran old ++ l) (sym (append_assoc (map succeeded before) (map succeeded (take index behind)) last_run));
        }
        go why x (Spawn {index = index}) within ran = record {
          index = index;
          within = within;
          counted = counted;
          ran = λ tells. let (runs, is, (w, at, ends)) = ran (same_kind ∙ tells) in both_ran runs tells is ∙ ap (λ (l : List Run). r.ran old ++ (map succeeded before ++ l)) ends;
        }

-- whose fault it is that an actuator wasn't run to its end
pub unrun_folder : {T : Type 0} (list : List (List (List ℕ))) (after : Bool) (why : ActFault) (x : Ending T) → IsUnrun list after why x → is_folder_fault x ≡ false
unrun_folder list after why x (Failed at) = refl
unrun_folder list after why x Spawn = refl

pub unrun_source : {T : Type 0} (list : List (List (List ℕ))) (after : Bool) (why : ActFault) (x : Ending T) → IsUnrun list after why x → is_source_fault x ≡ false
unrun_source list after why x (Failed at) = refl
unrun_source list after why x Spawn = refl

pub unrun_left : {T : Type 0} (list : List (List (List ℕ))) (after : Bool) (why : ActFault) (x : Ending T) → IsUnrun list after why x → is_left x ≡ false
unrun_left list after why x (Failed at) = refl
unrun_left list after why x Spawn = refl

pub unrun_cause : {T : Type 0} (list : List (List (List ℕ))) (after : Bool) (why : ActFault) (x : Ending T) (a b : ℕ) → IsUnrun list after why x → HasCause a b (IsSpawn (Err why)) → HasCause a b (is_spawn_fault x ≡ true)
unrun_cause {T = T} list after why x a b (Failed {index = index} {status = status} {words = words} at) h =
    cause_as a b (IsSpawn (Err (act_fault.Failed index status))) (is_spawn_fault {T = T} (ending.ActuatorFailed after words status) ≡ true) h (λ p. absurd p)
    (λ q. clash (is_spawn_fault {T = T} (ending.ActuatorFailed after words status)) q refl)
unrun_cause {T = T} list after why x a b (Spawn {index = index}) h =
    cause_as a b (IsSpawn (Err (act_fault.Spawn index))) (is_spawn_fault {T = T} (ending.SpawnFault after) ≡ true) h (λ p. refl) (λ q. tt)

-- what holds wherever an actuator wasn't run to its end, and where what stands ready couldn't be taken away, holds before the commit
pub unrun_before : {T : Type 0} (list : List (List (List ℕ))) (why : ActFault) (x : Ending T) (P : Ending T → Type 0) → IsUnrunBefore list why x → (IsUnrun list false why x → P x) → P (ending.FolderFault false) → P x
unrun_before list why x P (inl unrun) run fault = run unrun
unrun_before list why x P (inr is) run fault = subst P (sym is) fault

-- the spawner's fault is told, or the folder's in its place
pub before_cause : {T : Type 0} (list : List (List (List ℕ))) (why : ActFault) (x : Ending T) (a b : ℕ) → IsUnrunBefore list why x → HasCause a b (IsSpawn (Err why))
    → HasCause a b (IsToldOrMasked a b (is_spawn_fault x ≡ true) (is_failed x ≡ true))
before_cause list why x a b is h = unrun_before list why x (λ e. HasCause a b (IsToldOrMasked a b (is_spawn_fault e ≡ true) (is_failed e ≡ true))) is
    (λ unrun. told_own a b _ _ (unrun_cause list false why x a b unrun h)) (told_other a b _ _ h.later (λ bad. cc) refl)

-- where the commit failed it isn't the spawner's
pub uncommitted_cause : {T : Type 0} (why : CommitFault) (x : Ending T) (a b : ℕ) → x ≡ uncommitted_as why → HasCause a b ⊥ → HasCause a b (IsToldOrMasked a b (is_spawn_fault x ≡ true) (is_failed x ≡ true))
uncommitted_cause {T = T} why x a b is h = told_own a b _ _ (cause_as a b ⊥ (is_spawn_fault x ≡ true) h (λ bad. absurd bad) (λ spawn. absurd (clash (is_spawn_fault x) spawn (ap (λ (e : Ending T). is_spawn_fault e) is ∙ go why))))
  where
    go : (why : CommitFault) → is_spawn_fault {T = T} (uncommitted_as why) ≡ false
    go commit_fault.Unchanged = refl
    go commit_fault.Unfinished = refl
    go (commit_fault.BadJournal line) = refl

-- the same, where the repository was read until then
pub unready_behind : {T : Type 0} (effect : Effect) (decides : Decision T → Type 0) (tells now_tells : Bool) (repository now_repository : State) (c : Change T) (x : Ending T) → shows effect ≡ false
    → decides (decision.Change c) → now_tells ≡ tells → now_repository ≡ repository → IsUnstaged now_tells now_repository.held c x → IsUnready effect decides tells repository.held x
unready_behind effect decides tells now_tells repository now_repository c x changes decided same_tells same says =
    let a = subst (λ (b : Bool). IsUnstaged b now_repository.held c x) same_tells says in
    unready_from effect decides tells repository.held c x changes decided (subst (λ (s : State). IsUnstaged tells s.held c x) same a)

-- a change that stands ready is one that was decided on
pub readied : {T : Type 0} (means : Bool → Image → Image → Image → Type 0) (decides : Decision T → Type 0) (tells now_tells : Bool) (repository now_repository old mid new : State) (c : Change T) (p : Prepared T)
    → now_tells ≡ tells → now_repository ≡ repository → mid ≡ old → decides (decision.Change c) → IsPlanned means tells repository.held old.held c
    → p.before.items ≡ c.before.items → p.after.items ≡ c.after.items → p.told ≡ c.told
    → HasStaged now_tells now_repository.held c.publisher (map step_of c.steps.items) c.staged.items mid.held new → (IsTrue now_tells → AreIntactContents now_repository.held c.publisher c.staged.items)
    → IsReadied (means tells repository.held) decides tells repository.held old new p
readied means decides tells now_tells repository now_repository old mid new c p same_tells same_repository kept decided planned before behind told has intact =
    let a = subst (λ (b : Bool). HasStaged b now_repository.held c.publisher (map step_of c.steps.items) c.staged.items mid.held new) same_tells has in
    let b = subst (λ (s : State). HasStaged tells s.held c.publisher (map step_of c.steps.items) c.staged.items mid.held new) same_repository a in
    let all : HasStaged tells repository.held c.publisher (map step_of c.steps.items) c.staged.items old.held new =
    subst (λ (s : State). HasStaged tells repository.held c.publisher (map step_of c.steps.items) c.staged.items s.held new) kept b in
    record {
      change = c;
      decided = decided;
      before = before;
      behind = behind;
      told = told;
      after = visible (all_laid all.contents (map step_of c.steps.items) old.held);
      staged = all.is;
      is_meant = planned.is_meant all.contents all.are;
      intact = λ is. subst (λ (s : State). AreIntactContents s.held c.publisher c.staged.items) same_repository (intact (same_tells ∙ is));
    }

-- a change that was decided on is carried out with its own lists, by its own telling
pub carried_as : {T : Type 0} (steps : List Step) (old now : List Carrier) (Ran : List Run → Type 0) (x : Ending T) (before behind before' behind' : List (List (List ℕ))) (told told' : T)
    → before ≡ before' → behind ≡ behind' → told ≡ told' → IsCarriedTo steps before behind told old now Ran x → IsCarriedTo steps before' behind' told' old now Ran x
carried_as {T = T} steps old now Ran x before behind before' behind' told told' same_before same_behind same_told carried =
    let a = subst (λ (l : List (List (List ℕ))). IsCarriedTo steps l behind told old now Ran x) same_before carried in
    let b = subst (λ (l : List (List (List ℕ))). IsCarriedTo steps before' l told old now Ran x) same_behind a in
    subst (λ (v : T). IsCarriedTo steps before' behind' v old now Ran x) same_told b
