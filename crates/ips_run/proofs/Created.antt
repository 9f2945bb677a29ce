-- A request of a command that makes an image, by what the making of the directories answered.
use Rattle.std.proofs.Common.{◌≡◌, ◌⊎◌, inl, inr, ⊎_elim, ℕ, Bool, true, false, not, List, Result, OnOk, None, refl, sym, ◌∙◌, ap, subst, arith}
use Rattle.ips_text.specs.declared.path.RelPath.{RelPath}
use Rattle.ips_outside.specs.Image.{Image, is_dir}
use Rattle.ips_outside.specs.State.{State, IsSettled, nowhere, settled, untouched}
use Rattle.ips_outside.specs.Outside.{Outside, IsOutside, Elapses}
use Rattle.ips_outside.specs.Running.{Run, Running}
use Rattle.ips_outside.specs.Change.{with_entry_at}
use Rattle.ips_folder.specs.Calls.{Throughout, ChangesOnly}
use Rattle.ips_folder.proofs.Runs.{started, goes_on, joins, weaker, begun, stays, keeps_then}
use Rattle.ips_commit.proofs.OwnNames.{absent_below}
use Rattle.std.proofs.lemmas.Bool.{and_from}
use Rattle.ips_text.specs.Ancestry.{covers}
use Rattle.ips_steps.specs.Private.{records_name, gate_name}
use Rattle.ips_steps.proofs.Lists.{clash}
use Rattle.ips_kinds.specs.Tallies.{Carrier}
use Rattle.ips_history.specs.Directories.{creates, fixes, var_name, with_directories, is_dir_or_free, CanHaveDirectories, IsFirstObstacle}
use Rattle.ips_history.specs.Transition.{IsNotYetSafe}
use Rattle.ips_history.specs.Run.{StaysShut}
use Rattle.ips_history.specs.declared.effect.Effect.{Effect}
use Rattle.ips_run.specs.declared.creating.Missing.{Missing}
use Rattle.ips_run.specs.declared.creating.Missing.TheVariants as missing
use Rattle.ips_run.specs.declared.creating.DirectoryFault.{DirectoryFault}
use Rattle.ips_run.specs.declared.creating.DirectoryFault.TheVariants as fault
use Rattle.ips_run.specs.declared.operation.Decision.{Decision}
use Rattle.ips_run.specs.declared.ending.Ending.{Ending}
use Rattle.ips_run.specs.declared.ending.Ending.TheVariants as ending
use Rattle.ips_run.specs.Ending.{is_source_fault, is_spawn_fault, is_left}
use Rattle.ips_run.specs.Comes.{HasRun, IsToDecide, Comes, Unopened, Unfinished, Back, NotDirectory, Unready, Carried}
use Rattle.ips_run.specs.Phases.{IsAsked}
use Rattle.ips_run.specs.Creating.{IsMissing, IsBlockedBy, HasMade, HasMadeAtLast, HasMadeInPart, IsAsBefore, IsMade, IsSafeAtLast, AreMade, AreUnmade, SaysOfDirectories, ended_as, IsCreated, Standing, Uncreated, Made, Failed}
use Rattle.ips_run.proofs.Opened.{creates_unfixed}
use Rattle.ips_run.proofs.Told.{none_run}
use Rattle.ips_run.proofs.Leaving.{leaves_same, leaves_some, leaves_made}
use Rattle.ips_run.proofs.Performed.{early_fault}
use Rattle.ips_run.proofs.Directories.{made_dir, records_below, free_of, on_ok, none_to_make, records_to_make, both_to_make, can_have_still, directories_stand, gate_with, nothing_in_the_way, shut_now, shut_on, shut_then}

-- ---- the directories aren't made

pub unmade_as : {F T : Type 0} (o : Outside F) (old new : F) (why : DirectoryFault) (var records : RelPath) (x : Ending T) → x ≡ ended_as why var records → var.bytes ≡ var_name → records.bytes ≡ records_name
    → SaysOfDirectories o old new why → AreUnmade o old new x
unmade_as {T = T} o old new why var records x is var_is records_is says = subst (λ (e : Ending T). AreUnmade o old new e) (sym is) (go why says)
  where
    go : (why : DirectoryFault) → SaysOfDirectories o old new why → AreUnmade {T = T} o old new (ended_as why var records)
    go fault.Failed says = (refl, says)
    go fault.Var says = (says.0, subst (IsFirstObstacle (o.state old).held) (sym var_is) says.1)
    go fault.Records says = (says.0, subst (IsFirstObstacle (o.state old).held) (sym records_is) says.1)

pub ended_source : (T : Type 0) (why : DirectoryFault) (var records : RelPath) → is_source_fault {T = T} (ended_as why var records) ≡ false
ended_source T fault.Failed var records = refl
ended_source T fault.Var var records = refl
ended_source T fault.Records var records = refl

pub ended_spawn : (T : Type 0) (why : DirectoryFault) (var records : RelPath) → is_spawn_fault {T = T} (ended_as why var records) ≡ false
ended_spawn T fault.Failed var records = refl
ended_spawn T fault.Var var records = refl
ended_spawn T fault.Records var records = refl

module _ {F T : Type 0} (o : Outside F) (means : Image → Image → Type 0) (before : List Carrier) (old new : F) where
  pub created_unmade : (x : Ending T) → AreUnmade o old new x → IsCreated o means x before before old new
  created_unmade (ending.FolderFault false) (is, says) = ⊎_elim (λ kept. Uncreated early_fault kept) (λ making. Failed refl making) says
  created_unmade (ending.FolderFault true) (is, says) = cc
  created_unmade (ending.NotDirectory path) says = Uncreated (record { refused = refl; undone = refl; unrecovered = refl; finished = refl; readable = refl; unspawned = refl; payload = tt }) says.0
  created_unmade ending.OutOfMemory says = Uncreated (record { refused = refl; undone = refl; unrecovered = refl; finished = refl; readable = refl; unspawned = refl; payload = tt }) says
  created_unmade (ending.Done told) says = absurd says
  created_unmade (ending.Shown told) says = absurd says
  created_unmade (ending.Refused told) says = absurd says
  created_unmade ending.NothingToDo says = absurd says
  created_unmade ending.Unfinished says = absurd says
  created_unmade (ending.BadJournal line) says = absurd says
  created_unmade (ending.Recovered forward) says = absurd says
  created_unmade (ending.BadPayload name why) says = absurd says
  created_unmade (ending.ActuatorFailed after words status) says = absurd says
  created_unmade (ending.SpawnFault after) says = absurd says
  created_unmade ending.SourceFault says = absurd says

  pub created_made : (now : List Carrier) (x : Ending T) (at : F) → AreMade o old at → IsAsked o means x before now at new → IsCreated o means x before now old new
  created_made now x at made asked = ⊎_elim (λ none. Standing at none.0 none.1 asked) (λ making. Made at making made.shut made.made asked) made.none_made

-- what is left unfinished isn't told before the directories are made
pub unmade_finished : {F T : Type 0} (o : Outside F) (old new : F) (x : Ending T) → AreUnmade o old new x → is_left x ≡ true → ⊥
unmade_finished o old new (ending.FolderFault false) says left = cc
unmade_finished o old new (ending.FolderFault true) says left = cc
unmade_finished o old new (ending.NotDirectory path) says left = cc
unmade_finished o old new ending.OutOfMemory says left = cc
unmade_finished o old new (ending.Done told) says left = says
unmade_finished o old new (ending.Shown told) says left = says
unmade_finished o old new (ending.Refused told) says left = says
unmade_finished o old new ending.NothingToDo says left = says
unmade_finished o old new ending.Unfinished says left = says
unmade_finished o old new (ending.BadJournal line) says left = says
unmade_finished o old new (ending.Recovered forward) says left = says
unmade_finished o old new (ending.BadPayload name why) says left = says
unmade_finished o old new (ending.ActuatorFailed after words status) says left = says
unmade_finished o old new (ending.SpawnFault after) says left = says
unmade_finished o old new ending.SourceFault says left = says

-- ---- causes

module _ {T P : Type 0} (r : Running P) (p : P) (n : Effect) (D : Decision T → Type 0) (tells : Bool) (repository : Image) (before : List Carrier) where
  pub comes_unmade : {F : Type 0} (o : Outside F) (old new : F) (x : Ending T) → creates n ≡ true → (o.state old).held.look gate_name ≡ None → AreUnmade o old new x
      → Comes n D tells repository (o.state old).held (o.state new).held before before (HasRun r p p) x
  comes_unmade o old new (ending.FolderFault unfinished) is gate says = Unopened says.0 (leaves_some n (o.state old).held (o.state new).held (ending.FolderFault unfinished) refl (ap not says.0)) refl (none_run r p)
  comes_unmade o old new (ending.NotDirectory path) is gate says = NotDirectory is gate says.1 (ap (λ (s : State). s.held) says.0.1) refl (none_run r p)
  comes_unmade o old new ending.OutOfMemory is gate says = Unopened tt (leaves_same n (o.state old).held (o.state new).held ending.OutOfMemory refl (ap (λ (s : State). s.held) says.1)) refl (none_run r p)
  comes_unmade o old new (ending.Done told) is gate says = absurd says
  comes_unmade o old new (ending.Shown told) is gate says = absurd says
  comes_unmade o old new (ending.Refused told) is gate says = absurd says
  comes_unmade o old new ending.NothingToDo is gate says = absurd says
  comes_unmade o old new ending.Unfinished is gate says = absurd says
  comes_unmade o old new (ending.BadJournal line) is gate says = absurd says
  comes_unmade o old new (ending.Recovered forward) is gate says = absurd says
  comes_unmade o old new (ending.BadPayload name why) is gate says = absurd says
  comes_unmade o old new (ending.ActuatorFailed after words status) is gate says = absurd says
  comes_unmade o old new (ending.SpawnFault after) is gate says = absurd says
  comes_unmade o old new ending.SourceFault is gate says = absurd says

  module _ (held left : Image) (is : creates n ≡ true) (gate : held.look gate_name ≡ None) (can : CanHaveDirectories held) (now : List Carrier) (Ran : List Run → Type 0) where
    to_decide : IsToDecide n held
    to_decide = (gate, λ fixing. absurd (clash (fixes n) fixing (creates_unfixed n is)), λ creating. can)

    -- what is told of the image with the directories is told of the one without
    before_made : (x : Ending T) → Comes n D tells repository (with_directories held) left before now Ran x → Comes n D tells repository held left before now Ran x
    before_made x (Unopened why leaves same ran) = Unopened why (leaves_made n held left x is can leaves) same ran
    before_made x (Unfinished unfixed there kept same ran) = absurd (there shut)
      where
        shut : (with_directories held).look gate_name ≡ None
        shut = gate_with held gate
    before_made x (Back fixing stopped back ran) = absurd (clash (fixes n) fixing (creates_unfixed n is))
    before_made x (NotDirectory creating shut way kept same ran) = absurd (nothing_in_the_way held can _ way)
    before_made x (Unready decide why leaves same ran) = Unready to_decide why (leaves_made n held left x is can leaves) same ran
    before_made x (Carried c changes decide decided intact leaves carried) = Carried c changes to_decide decided intact (leaves_made n held left x is can leaves) carried

    pub comes_made : (x : Ending T) → (IsToDecide n (with_directories held) → Comes n D tells repository (with_directories held) left before now Ran x) → Comes n D tells repository held left before now Ran x
    comes_made x comes = before_made x (comes (gate_with held gate, λ fixing. absurd (clash (fixes n) fixing (creates_unfixed n is)), λ creating. can_have_still held can))

-- the same of an image that is held so
pub comes_at : {T : Type 0} (n : Effect) (D : Image → Decision T → Type 0) (tells : Bool) (repository left : Image) (before now : List Carrier) (Ran : List Run → Type 0) (x : Ending T) (m t : Image) → m ≡ t
    → (IsToDecide n m → Comes n (D m) tells repository m left before now Ran x) → IsToDecide n t → Comes n (D t) tells repository t left before now Ran x
comes_at n D tells repository left before now Ran x m t same comes = subst (λ (u : Image). IsToDecide n u → Comes n (D u) tells repository u left before now Ran x) same comes

-- ---- what is so behind the making

pub made_safe : (t : Image) (s : State) → s ≡ untouched t → IsSettled s
made_safe t s is = subst IsSettled (sym is) (record { whole = λ q. refl; modes = λ q. refl })

module _ {F : Type 0} (o : Outside F) (sane : IsOutside o) (old new : F) where
  pub made_shut : AreMade o old new → (o.state new).held.look gate_name ≡ None
  made_shut made = made.shut.each (o.state new) (sane.counts_now new (o.clock old) made.shut.later)

  pub made_records : AreMade o old new → is_dir ((o.state new).held.look records_name) ≡ true
  made_records made = ap (λ (s : State). is_dir (s.held.look records_name)) made.made ∙ (directories_stand (o.state old).held made.can).1

-- nothing has happened yet
pub as_before : {F : Type 0} (o : Outside F) (old : F) → IsAsBefore o old old
as_before o old = (record { later = omega arith; nothing_else = λ t s le was. inl was; remembers = λ t s le was. was }, refl)

-- ---- what is missing, and what is made of it

module _ {F : Type 0} (o : Outside F) (sane : IsOutside o) (old : F) (told : o.tells old ≡ true) where
  abbrev held : Image
  held = (o.state old).held

  can_have : (m : Missing) → IsMissing held m → CanHaveDirectories held
  can_have missing.Nothing (var, records) = and_from _ _ (free_of (held.look var_name) var) (free_of (held.look records_name) records)
  can_have missing.Records (var, records) = and_from _ _ (free_of (held.look var_name) var) (ap is_dir_or_free records)
  can_have missing.Both var = and_from _ _ (ap is_dir_or_free var) (ap is_dir_or_free (absent_below held (sane.formed old told) var_name records_name records_below var))

  -- nothing was changed until then
  module _ (mid new : F) (time : Elapses o old mid) (same : o.state mid ≡ o.state old) where
    since : (free : List ℕ → Bool) → ChangesOnly o free nowhere mid new → ChangesOnly o free nowhere old new
    since free kept = keeps_then o free nowhere old mid new (stays o free nowhere old old mid (begun o free nowhere old (sane.only_now old)) time same) kept

    last_of : (dir : List ℕ) → IsSafeAtLast o dir mid new → IsSafeAtLast o dir old new
    last_of dir run =
        let P : State → Type 0 = λ s. IsNotYetSafe dir (o.state old) s ⊎ (s ≡ o.state new) in
        joins o old mid new P (goes_on o old old mid P (started o old P (sane.only_now old) (inl (inl refl))) time (inl (inl same)))
        (weaker o mid new (λ s. IsNotYetSafe dir (o.state mid) s ⊎ (s ≡ o.state new)) P
        (λ s is. ⊎_elim (λ early. inl (subst (λ (t : State). IsNotYetSafe dir t s) same early)) (λ end. inr end) is) run)

    making_of : (m : Missing) → IsMissing held m → HasMade o m mid new → HasMadeAtLast o m mid new → ((new ≡ mid) × (m ≡ missing.Nothing)) ⊎ IsMade o old new
    making_of missing.Nothing is none last = inl (none, refl)
    making_of missing.Records is kept last = inr (record {
      making = record { dir = records_name; is = inr refl; absent = is.1; kept = since (covers records_name) kept };
      last = last_of records_name last;
    })
    making_of missing.Both is kept last = inr (record {
      making = record { dir = var_name; is = inl refl; absent = is; kept = since (covers var_name) kept };
      last = last_of var_name last;
    })

    unsafe_of : (dir : List ℕ) → Throughout o mid new (IsNotYetSafe dir (o.state mid)) → Throughout o old new (IsNotYetSafe dir (o.state old))
    unsafe_of dir run =
        let P : State → Type 0 = IsNotYetSafe dir (o.state old) in
        joins o old mid new P (goes_on o old old mid P (started o old P (sane.only_now old) (inl refl)) time (inl same))
        (weaker o mid new (IsNotYetSafe dir (o.state mid)) P (λ s is. subst (λ (t : State). IsNotYetSafe dir t s) same is) run)

    pub failed_of : (m : Missing) → IsMissing held m → HasMade o m mid new → HasMadeInPart o m mid new → SaysOfDirectories o old new fault.Failed
    failed_of missing.Nothing is has part = absurd part
    failed_of missing.Records is has part = inr (record {
      making = record { dir = records_name; is = inr refl; absent = is.1; kept = since (covers records_name) has };
      moments = unsafe_of records_name part;
    })
    failed_of missing.Both is has part = inr (record {
      making = record { dir = var_name; is = inl refl; absent = is; kept = since (covers var_name) has };
      moments = unsafe_of var_name part;
    })

    pub made_of : (m : Missing) → IsMissing held m → HasMade o m mid new → HasMadeAtLast o m mid new → held.look gate_name ≡ None
        → o.state new ≡ untouched (with_directories (o.state mid).held) → StaysShut o mid new → AreMade o old new
    made_of m is has last gate made closed = record {
      can = can_have m is;
      made = made ∙ ap (λ (s : State). untouched (with_directories s.held)) same;
      none_made = ⊎_elim (λ none. inl (unmade none.0 none.1)) (λ making. inr making) (making_of m is has last);
      shut = shut_then o sane old mid new (shut_on o sane old old mid (shut_now o sane old gate) time (ap (λ (s : State). s.held.look gate_name) same ∙ gate)) closed;
    }
      where
        unmade : new ≡ mid → m ≡ missing.Nothing → IsAsBefore o old new × (with_directories held ≡ held)
        unmade none nothing =
            let both : IsMissing held missing.Nothing = subst (IsMissing held) nothing is in
            ((subst (λ (f : F). Elapses o old f) (sym none) time, ap (λ (f : F). o.state f) none ∙ same), none_to_make held both.0 both.1)

  -- something is in the way
  pub blocked_of : (new : F) (why : DirectoryFault) → Elapses o old new → o.state new ≡ o.state old → IsBlockedBy held why → SaysOfDirectories o old new why
  blocked_of new fault.Failed time same blocked = inl (time, same)
  blocked_of new fault.Var time same blocked = ((time, same), (blocked, inl refl))
  blocked_of new fault.Records time same blocked = ((time, same), (blocked.1, inr (refl, blocked.0)))

  -- the directories, made of those that are missing
  pub made_nothing : (m : Missing) → m ≡ missing.Nothing → IsMissing held m → o.state old ≡ settled (o.state old) → o.state old ≡ untouched (with_directories held)
  made_nothing m nothing is safe =
      let both : IsMissing held missing.Nothing = subst (IsMissing held) nothing is in
      safe ∙ ap (λ (t : Image). untouched t) (sym (none_to_make held both.0 both.1))

  module _ (new : F) {U V : Type 0} (result : Result U V) (m : Missing) (is : IsMissing held m) where
    pub made_records_alone : m ≡ missing.Records → OnOk result (o.state new ≡ untouched (with_entry_at records_name made_dir held)) → OnOk result (o.state new ≡ untouched (with_directories held))
    made_records_alone records done =
        let both : IsMissing held missing.Records = subst (IsMissing held) records is in
        on_ok result done (λ made. made ∙ ap (λ (t : Image). untouched t) (sym (records_to_make held both.0 both.1)))

    pub made_both : m ≡ missing.Both → OnOk result (o.state new ≡ untouched (with_entry_at records_name made_dir (with_entry_at var_name made_dir held))) → OnOk result (o.state new ≡ untouched (with_directories held))
    made_both two done = on_ok result done (λ made. made ∙ ap (λ (t : Image). untouched t) (sym (both_to_make held (subst (IsMissing held) two is))))
