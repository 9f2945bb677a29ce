-- An ending that comes tells what was so before the run, and of two such one alone is.
use Rattle.std.proofs.Common.{◌≡◌, ◌≢◌, inl, inr, ⊎_elim, ℕ, ◌<◌, ◌≤◌, true, false, List, map, Option, Some, None, length, refl, sym, ◌∙◌, ap, subst, arith}
use Rattle.std.proofs.lemmas.Bool.{and_parts}
use Rattle.ips_outside.specs.Image.{Image}
use Rattle.ips_outside.specs.Running.{Run}
use Rattle.ips_digest.specs.declared.name.PayloadName.{PayloadName}
use Rattle.ips_repo.specs.Files.{file_at, HasSize}
use Rattle.ips_repo.specs.Places.{payload_place}
use Rattle.ips_repo.specs.Payload.{payload_limit, digest_by}
use Rattle.ips_repo.specs.declared.fault.RepoFault.{RepoFault}
use Rattle.ips_repo.specs.declared.fault.RepoFault.TheVariants as fault
use Rattle.ips_steps.specs.Steps.{Step}
use Rattle.ips_steps.specs.Private.{gate_name}
use Rattle.ips_steps.specs.View.{step_of}
use Rattle.ips_steps.proofs.Lists.{clash}
use Rattle.ips_kinds.specs.Tallies.{Carrier}
use Rattle.ips_contents.specs.Contents.{AreIntactContents, IsIntact, IsPayloadFileFault, SaysOfStage}
use Rattle.ips_contents.specs.declared.fault.StageFault.TheVariants as stage
use Rattle.ips_history.specs.Directories.{creates, fixes, var_name, is_dir_or_free, IsFirstObstacle}
use Rattle.ips_history.specs.declared.effect.Effect.{Effect}
use Rattle.ips_run.specs.declared.operation.Change.{Change}
use Rattle.ips_run.specs.declared.operation.Decision.{Decision}
use Rattle.ips_run.specs.declared.operation.Decision.TheVariants as decision
use Rattle.ips_run.specs.declared.ending.Ending.{Ending}
use Rattle.ips_run.specs.declared.ending.Ending.TheVariants as ending
use Rattle.ips_run.specs.Comes.{IsStopped, IsToDecide, IsUnopened, IsUnready, IsBackTo, IsCarriedTo, Comes, Unopened, Unfinished, Back, NotDirectory, Unready, Carried}
use Rattle.ips_run.specs.Exclusive.{Way, AtGate, Recovering, InTheWay, Showing, Refusing, Needless, Damaged, Carrying, Faulty, way_of, is_faulty, DecidesAlike}
use Rattle.ips_run.proofs.Opened.{creates_unfixed}

-- ---- a payload that has a fault isn't intact

over : (size count limit : ℕ) → size ≡ count → limit < count → size ≤ limit → ⊥
over size count limit same many few = omega (arith, same, many, few)

pub not_both : (name : PayloadName) (file : Option (List ℕ)) (why : RepoFault) → IsPayloadFileFault name file why → IsIntact name file → ⊥
not_both name file fault.NoRepository is intact = is
not_both name file (fault.BadCatalog why) is intact = is
not_both name file fault.ManifestMissing is intact = is
not_both name file (fault.BadManifest why) is intact = is
not_both name file fault.PayloadMissing is intact = let bad : Some intact.bytes ≡ None = sym intact.stands ∙ is in cc
not_both name file (fault.PayloadDamaged found) (bytes, stands, few, (same, other, plain)) intact =
    let one : bytes ≡ intact.bytes = let e : Some bytes ≡ Some intact.bytes = sym stands ∙ intact.stands in cc in
    other (same ∙ ap (digest_by name) one ∙ intact.intact)
not_both name file (fault.Compressed found) (bytes, stands, few, (same, other, packed)) intact =
    let one : bytes ≡ intact.bytes = let e : Some bytes ≡ Some intact.bytes = sym stands ∙ intact.stands in cc in
    other (same ∙ ap (digest_by name) one ∙ intact.intact)
not_both name file (fault.TooLarge which count) (size, which_is, many) intact =
    over (length intact.bytes) count payload_limit (subst (λ (f : Option (List ℕ)). HasSize f count) intact.stands size) many intact.within
not_both name file fault.SourceFault is intact = is

module _ {T : Type 0} (n : Effect) (decides : Decision T → Type 0) (repository held : Image) where
  -- what is so before a run that ends in this way
  abbrev Before : Way → Type 0
  Before AtGate = (fixes n ≡ false) × (held.look gate_name ≢ None)
  Before Recovering = (fixes n ≡ true) × IsStopped held
  Before InTheWay = (creates n ≡ true) × (held.look gate_name ≡ None) × ((p : List ℕ) × IsFirstObstacle held p)
  Before Showing = IsToDecide n held × ((told : T) × decides (decision.Shown told))
  Before Refusing = IsToDecide n held × ((told : T) × decides (decision.Refused told))
  Before Needless = IsToDecide n held × decides decision.Nothing
  Before Damaged = IsToDecide n held × ((c : Change T) × decides (decision.Change c) × ((name : PayloadName) × (why : RepoFault) × SaysOfStage true repository c.publisher c.staged.items (stage.Payload name why)))
  Before Carrying = IsToDecide n held × ((c : Change T) × decides (decision.Change c) × AreIntactContents repository c.publisher c.staged.items)
  Before Faulty = ⊥

  unready : (x : Ending T) → IsToDecide n held → IsUnready n decides true repository x → is_faulty x ≡ false → Before (way_of x)
  unready (ending.Shown told) decide says sound = (decide, (told, says.1))
  unready (ending.Refused told) decide says sound = (decide, (told, says))
  unready ending.NothingToDo decide says sound = (decide, says.1)
  unready (ending.BadPayload name why) decide says sound = (decide, (says.1.0, says.1.1, (name, why, says.1.2)))
  unready ending.SourceFault decide says sound = cc
  unready (ending.FolderFault unfinished) decide says sound = cc
  unready ending.OutOfMemory decide says sound = cc
  unready (ending.Done told) decide says sound = absurd says
  unready ending.Unfinished decide says sound = absurd says
  unready (ending.BadJournal line) decide says sound = absurd says
  unready (ending.Recovered forward) decide says sound = absurd says
  unready (ending.NotDirectory path) decide says sound = absurd says
  unready (ending.ActuatorFailed after words status) decide says sound = absurd says
  unready (ending.SpawnFault after) decide says sound = cc

  -- the endings of a request, of a recovery, and of neither
  module _ (left : Image) (old now : List Carrier) where
    carried : (Ran : List Run → Type 0) (c : Change T) (x : Ending T) (steps : List Step) (before behind : List (List (List ℕ))) → Before Carrying → IsCarriedTo steps before behind c.told old now Ran x → is_faulty x ≡ false → Before (way_of x)
    carried Ran c (ending.Done told) steps before behind is says sound = is
    carried Ran c (ending.ActuatorFailed after words status) steps before behind is says sound = is
    carried Ran c (ending.SpawnFault after) steps before behind is says sound = cc
    carried Ran c (ending.FolderFault unfinished) steps before behind is says sound = cc
    carried Ran c ending.SourceFault steps before behind is says sound = cc
    carried Ran c ending.OutOfMemory steps before behind is says sound = cc
    carried Ran c (ending.Shown told) steps before behind is says sound = absurd says
    carried Ran c (ending.Refused told) steps before behind is says sound = absurd says
    carried Ran c ending.NothingToDo steps before behind is says sound = absurd says
    carried Ran c ending.Unfinished steps before behind is says sound = absurd says
    carried Ran c (ending.BadJournal line) steps before behind is says sound = absurd says
    carried Ran c (ending.Recovered forward) steps before behind is says sound = absurd says
    carried Ran c (ending.NotDirectory path) steps before behind is says sound = absurd says
    carried Ran c (ending.BadPayload name why) steps before behind is says sound = absurd says

    back : (x : Ending T) → Before Recovering → IsBackTo held left old now x → is_faulty x ≡ false → Before (way_of x)
    back (ending.Recovered forward) is says sound = is
    back (ending.BadJournal line) is says sound = is
    back (ending.SpawnFault after) is says sound = cc
    back (ending.FolderFault unfinished) is says sound = cc
    back ending.SourceFault is says sound = cc
    back ending.OutOfMemory is says sound = cc
    back (ending.Done told) is says sound = absurd says
    back (ending.ActuatorFailed after words status) is says sound = absurd says
    back (ending.Shown told) is says sound = absurd says
    back (ending.Refused told) is says sound = absurd says
    back ending.NothingToDo is says sound = absurd says
    back ending.Unfinished is says sound = absurd says
    back (ending.NotDirectory path) is says sound = absurd says
    back (ending.BadPayload name why) is says sound = absurd says

    unopened : (x : Ending T) → IsUnopened x → is_faulty x ≡ false → ⊥
    unopened (ending.FolderFault unfinished) is sound = cc
    unopened ending.OutOfMemory is sound = cc
    unopened (ending.SpawnFault after) is sound = is
    unopened ending.SourceFault is sound = is
    unopened (ending.Done told) is sound = is
    unopened (ending.ActuatorFailed after words status) is sound = is
    unopened (ending.Shown told) is sound = is
    unopened (ending.Refused told) is sound = is
    unopened ending.NothingToDo is sound = is
    unopened ending.Unfinished is sound = is
    unopened (ending.NotDirectory path) is sound = is
    unopened (ending.BadPayload name why) is sound = is
    unopened (ending.BadJournal line) is sound = is
    unopened (ending.Recovered forward) is sound = is

    pub before_run : (Ran : List Run → Type 0) (x : Ending T) → Comes n decides true repository held left old now Ran x → is_faulty x ≡ false → Before (way_of x)
    before_run Ran x (Unopened why leaves same ran) sound = absurd (unopened x why sound)
    before_run Ran x (Unfinished unfixed there kept same ran) sound = (unfixed, there)
    before_run Ran x (Back fixing stopped says ran) sound = back x (fixing, stopped) says sound
    before_run Ran x (NotDirectory {path = path} creating shut way kept same ran) sound = (creating, shut, (path.bytes, way))
    before_run Ran x (Unready decide says leaves same ran) sound = unready x decide says sound
    before_run Ran x (Carried c changes decide decided intact leaves says) sound = carried Ran c x (map step_of c.steps.items) c.before.items c.after.items (decide, (c, decided, intact refl)) says sound

  -- ---- one alone is so

  at_gate_stopped : Before AtGate → Before Recovering → ⊥
  at_gate_stopped a b = clash (fixes n) b.0 a.0

  undecided : IsToDecide n held → Before AtGate → ⊥
  undecided decide a = a.1 decide.0

  not_stopped : IsToDecide n held → Before Recovering → ⊥
  not_stopped decide (fixing, inl there) = there decide.0
  not_stopped decide (fixing, inr (gate, leftover)) = leftover.stands (decide.1 fixing leftover.path leftover.is_own)

  not_in_the_way : IsToDecide n held → Before InTheWay → ⊥
  not_in_the_way decide (creating, gate, (p, (blocked, one))) =
      let can = and_parts (is_dir_or_free (held.look var_name)) _ (decide.2 creating) in
      ⊎_elim
      (λ is. clash (is_dir_or_free (held.look p)) (subst (λ (q : List ℕ). is_dir_or_free (held.look q) ≡ true) (sym is) can.0) blocked)
      (λ second. clash (is_dir_or_free (held.look p)) (subst (λ (q : List ℕ). is_dir_or_free (held.look q) ≡ true) (sym second.0) can.1) blocked)
      one

  module _ (unique : DecidesAlike decides) where
    damaged_carried : Before Damaged → Before Carrying → ⊥
    damaged_carried (decide, (c, decided, (name, why, says))) (other, (d, chosen, intact)) =
        let alike = unique (decision.Change c) (decision.Change d) decided chosen in
        let first = says.1 refl in
        not_both name (file_at repository (payload_place c.publisher name)) why first.is
        (subst (λ (publisher : List ℕ). IsIntact name (file_at repository (payload_place publisher name))) alike.0.publisher (intact first.at _ (alike.0.payloads first.at name first.stands)))

    pub one_alone : (v w : Way) → Before v → Before w → v ≡ w
    one_alone AtGate AtGate a b = refl
    one_alone AtGate Recovering a b = absurd (at_gate_stopped a b)
    one_alone AtGate InTheWay a b = absurd (a.1 b.1)
    one_alone AtGate Showing a b = absurd (undecided b.0 a)
    one_alone AtGate Refusing a b = absurd (undecided b.0 a)
    one_alone AtGate Needless a b = absurd (undecided b.0 a)
    one_alone AtGate Damaged a b = absurd (undecided b.0 a)
    one_alone AtGate Carrying a b = absurd (undecided b.0 a)
    one_alone AtGate Faulty a b = absurd b
    one_alone Recovering AtGate a b = absurd (at_gate_stopped b a)
    one_alone Recovering Recovering a b = refl
    one_alone Recovering InTheWay a b = absurd (clash (fixes n) a.0 (creates_unfixed n b.0))
    one_alone Recovering Showing a b = absurd (not_stopped b.0 a)
    one_alone Recovering Refusing a b = absurd (not_stopped b.0 a)
    one_alone Recovering Needless a b = absurd (not_stopped b.0 a)
    one_alone Recovering Damaged a b = absurd (not_stopped b.0 a)
    one_alone Recovering Carrying a b = absurd (not_stopped b.0 a)
    one_alone Recovering Faulty a b = absurd b
    one_alone InTheWay AtGate a b = absurd (b.1 a.1)
    one_alone InTheWay Recovering a b = absurd (clash (fixes n) b.0 (creates_unfixed n a.0))
    one_alone InTheWay InTheWay a b = refl
    one_alone InTheWay Showing a b = absurd (not_in_the_way b.0 a)
    one_alone InTheWay Refusing a b = absurd (not_in_the_way b.0 a)
    one_alone InTheWay Needless a b = absurd (not_in_the_way b.0 a)
    one_alone InTheWay Damaged a b = absurd (not_in_the_way b.0 a)
    one_alone InTheWay Carrying a b = absurd (not_in_the_way b.0 a)
    one_alone InTheWay Faulty a b = absurd b
    one_alone Showing AtGate a b = absurd (undecided a.0 b)
    one_alone Showing Recovering a b = absurd (not_stopped a.0 b)
    one_alone Showing InTheWay a b = absurd (not_in_the_way a.0 b)
    one_alone Showing Showing a b = refl
    one_alone Showing Refusing a b = absurd (unique (decision.Shown a.1.0) (decision.Refused b.1.0) a.1.1 b.1.1)
    one_alone Showing Needless a b = absurd (unique (decision.Shown a.1.0) decision.Nothing a.1.1 b.1)
    one_alone Showing Damaged a b = absurd (unique (decision.Shown a.1.0) (decision.Change b.1.0) a.1.1 b.1.1)
    one_alone Showing Carrying a b = absurd (unique (decision.Shown a.1.0) (decision.Change b.1.0) a.1.1 b.1.1)
    one_alone Showing Faulty a b = absurd b
    one_alone Refusing AtGate a b = absurd (undecided a.0 b)
    one_alone Refusing Recovering a b = absurd (not_stopped a.0 b)
    one_alone Refusing InTheWay a b = absurd (not_in_the_way a.0 b)
    one_alone Refusing Showing a b = absurd (unique (decision.Refused a.1.0) (decision.Shown b.1.0) a.1.1 b.1.1)
    one_alone Refusing Refusing a b = refl
    one_alone Refusing Needless a b = absurd (unique (decision.Refused a.1.0) decision.Nothing a.1.1 b.1)
    one_alone Refusing Damaged a b = absurd (unique (decision.Refused a.1.0) (decision.Change b.1.0) a.1.1 b.1.1)
    one_alone Refusing Carrying a b = absurd (unique (decision.Refused a.1.0) (decision.Change b.1.0) a.1.1 b.1.1)
    one_alone Refusing Faulty a b = absurd b
    one_alone Needless AtGate a b = absurd (undecided a.0 b)
    one_alone Needless Recovering a b = absurd (not_stopped a.0 b)
    one_alone Needless InTheWay a b = absurd (not_in_the_way a.0 b)
    one_alone Needless Showing a b = absurd (unique decision.Nothing (decision.Shown b.1.0) a.1 b.1.1)
    one_alone Needless Refusing a b = absurd (unique decision.Nothing (decision.Refused b.1.0) a.1 b.1.1)
    one_alone Needless Needless a b = refl
    one_alone Needless Damaged a b = absurd (unique decision.Nothing (decision.Change b.1.0) a.1 b.1.1)
    one_alone Needless Carrying a b = absurd (unique decision.Nothing (decision.Change b.1.0) a.1 b.1.1)
    one_alone Needless Faulty a b = absurd b
    one_alone Damaged AtGate a b = absurd (undecided a.0 b)
    one_alone Damaged Recovering a b = absurd (not_stopped a.0 b)
    one_alone Damaged InTheWay a b = absurd (not_in_the_way a.0 b)
    one_alone Damaged Showing a b = absurd (unique (decision.Change a.1.0) (decision.Shown b.1.0) a.1.1 b.1.1)
    one_alone Damaged Refusing a b = absurd (unique (decision.Change a.1.0) (decision.Refused b.1.0) a.1.1 b.1.1)
    one_alone Damaged Needless a b = absurd (unique (decision.Change a.1.0) decision.Nothing a.1.1 b.1)
    one_alone Damaged Damaged a b = refl
    one_alone Damaged Carrying a b = absurd (damaged_carried a b)
    one_alone Damaged Faulty a b = absurd b
    one_alone Carrying AtGate a b = absurd (undecided a.0 b)
    one_alone Carrying Recovering a b = absurd (not_stopped a.0 b)
    one_alone Carrying InTheWay a b = absurd (not_in_the_way a.0 b)
    one_alone Carrying Showing a b = absurd (unique (decision.Change a.1.0) (decision.Shown b.1.0) a.1.1 b.1.1)
    one_alone Carrying Refusing a b = absurd (unique (decision.Change a.1.0) (decision.Refused b.1.0) a.1.1 b.1.1)
    one_alone Carrying Needless a b = absurd (unique (decision.Change a.1.0) decision.Nothing a.1.1 b.1)
    one_alone Carrying Damaged a b = absurd (damaged_carried b a)
    one_alone Carrying Carrying a b = refl
    one_alone Carrying Faulty a b = absurd b
    one_alone Faulty AtGate a b = absurd a
    one_alone Faulty Recovering a b = absurd a
    one_alone Faulty InTheWay a b = absurd a
    one_alone Faulty Showing a b = absurd a
    one_alone Faulty Refusing a b = absurd a
    one_alone Faulty Needless a b = absurd a
    one_alone Faulty Damaged a b = absurd a
    one_alone Faulty Carrying a b = absurd a
    one_alone Faulty Faulty a b = refl
