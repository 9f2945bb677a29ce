-- A run leaves one outcome that is fixed, where its operation decides once.
use Rattle.std.proofs.Common.{◌≡◌, ◌⊎◌, inl, inr, ℕ, zero, suc, ◌<◌, ◌≤◌, true, false, IsFalse, List, ◌++◌, map, length, Option, Some, None, is_some, codes, refl, sym, ◌∙◌, ap, ap₂, subst, arith}
use Rattle.std.specs.Prelude.{slice_get}
use Rattle.std.specs.Fmt.{decimal}
use Rattle.ips_text.specs.Quote.{shown}
use Rattle.ips_text.specs.declared.path.RelPath.{RelPath}
use Rattle.ips_outside.specs.Image.{Entry, Image}
use Rattle.ips_outside.specs.Running.{Run}
use Rattle.ips_digest.specs.declared.name.PayloadName.{PayloadName}
use Rattle.ips_repo.specs.Files.{file_at, HasSize}
use Rattle.ips_repo.specs.Places.{payload_place}
use Rattle.ips_repo.specs.Payload.{digest_by, is_gzip, payload_limit}
use Rattle.ips_repo.specs.declared.fault.RepoFault.{RepoFault}
use Rattle.ips_repo.specs.declared.fault.RepoFault.TheVariants as fault
use Rattle.ips_steps.specs.Private.{gate_name}
use Rattle.ips_steps.specs.Steps.{Step}
use Rattle.ips_steps.specs.View.{step_of}
use Rattle.ips_steps.proofs.Lists.{clash}
use Rattle.ips_kinds.specs.Tallies.{Carrier}
use Rattle.ips_journal.specs.declared.staged.Staged.{Staged}
use Rattle.ips_journal.specs.declared.staged.Staged.TheVariants.{Payload}
use Rattle.ips_contents.specs.Contents.{IsFirstFault, IsIntact, IsPayloadFileFault}
use Rattle.ips_commit.specs.Recovering.{CanRollForward, IsBadJournal}
use Rattle.ips_history.specs.Directories.{IsFirstObstacle, is_dir_or_free, var_name}
use Rattle.ips_history.specs.declared.effect.Effect.{Effect}
use Rattle.ips_report.specs.Report.{line}
use Rattle.ips_report.specs.declared.outcome.Outcome.{Outcome}
use Rattle.ips_report.specs.declared.outcome.Outcome.TheVariants as outcome
use Rattle.ips_run.specs.declared.operation.Change.{Change}
use Rattle.ips_run.specs.declared.operation.Decision.{Decision}
use Rattle.ips_run.specs.declared.operation.Decision.TheVariants as decision
use Rattle.ips_run.specs.declared.ending.Ending.{Ending}
use Rattle.ips_run.specs.declared.ending.Ending.TheVariants as ending
use Rattle.ips_run.specs.Comes.{Comes, IsBackTo, IsCarriedTo, IsUnopened, IsUnready, Back, Carried, NotDirectory, Unfinished, Unopened, Unready}
use Rattle.ips_run.specs.Exclusive.{AreAlike, DecidesAlike, Way, AtGate, Recovering, InTheWay, Showing, Refusing, Needless, Damaged, Carrying, Faulty, is_faulty, way_of}
use Rattle.ips_run.proofs.Exclusive.{before_run, not_both, one_alone}
use Rattle.ips_tell.specs.told.Told.{payload_told, told_as}
use Rattle.ips_laws.specs.answers.Decided.{DecideTheSame, DecidesOnce, IsFixedDecision}
use Rattle.ips_laws.specs.answers.Same.{IsFixed, SayTheSame}
use Rattle.ips_laws.proofs.answers.Journals.{bad_once, forward_or_bad}

pub says_same : (a b : Outcome) → a ≡ b → SayTheSame a b
says_same a b e = subst (SayTheSame a) e (record { number = refl; text = refl })

pub turned : (a b : Outcome) → SayTheSame a b → SayTheSame b a
turned a b s = record { number = sym s.number; text = sym s.text }

-- ---- the first payload that has a fault

pub some_one : {A : Type 0} (file : Option A) (x y : A) → file ≡ Some x → file ≡ Some y → x ≡ y
some_one file x y a b = let e : Some x ≡ Some y = sym a ∙ b in cc

not_none : {A : Type 0} (file : Option A) (x : A) → file ≡ None → file ≡ Some x → ⊥
not_none file x a b = let e : None ≡ Some x = sym a ∙ b in cc

sized : (file : Option (List ℕ)) (bytes : List ℕ) (count : ℕ) → file ≡ Some bytes → HasSize file count → length bytes ≡ count
sized file bytes count a size = subst (λ (f : Option (List ℕ)). HasSize f count) a size

no_size : (file : Option (List ℕ)) (count : ℕ) → file ≡ None → HasSize file count → ⊥
no_size file count a size = subst (λ (f : Option (List ℕ)). HasSize f count) a size

beyond : (size count : ℕ) → size ≡ count → payload_limit < count → size ≤ payload_limit → ⊥
beyond size count same many few = omega (arith, same, many, few)

fault_one : (name : PayloadName) (file : Option (List ℕ)) (f g : RepoFault) → IsPayloadFileFault name file f → IsPayloadFileFault name file g → payload_told name f ≡ payload_told name g
fault_one name file fault.NoRepository g a b = absurd a
fault_one name file (fault.BadCatalog why) g a b = absurd a
fault_one name file fault.ManifestMissing g a b = absurd a
fault_one name file (fault.BadManifest why) g a b = absurd a
fault_one name file fault.SourceFault g a b = absurd a
fault_one name file f fault.NoRepository a b = absurd b
fault_one name file f (fault.BadCatalog why) a b = absurd b
fault_one name file f fault.ManifestMissing a b = absurd b
fault_one name file f (fault.BadManifest why) a b = absurd b
fault_one name file f fault.SourceFault a b = absurd b
fault_one name file fault.PayloadMissing fault.PayloadMissing a b = refl
fault_one name file fault.PayloadMissing (fault.PayloadDamaged found) a b = absurd (not_none file b.0 a b.1)
fault_one name file fault.PayloadMissing (fault.Compressed found) a b = absurd (not_none file b.0 a b.1)
fault_one name file fault.PayloadMissing (fault.TooLarge which count) a b = absurd (no_size file count a b.0)
fault_one name file (fault.PayloadDamaged found) fault.PayloadMissing a b = absurd (not_none file a.0 b a.1)
fault_one name file (fault.PayloadDamaged found) (fault.PayloadDamaged other) a b = ap (outcome.PayloadDamaged name) (a.3.0 ∙ ap (digest_by name) (some_one file a.0 b.0 a.1 b.1) ∙ sym b.3.0)
fault_one name file (fault.PayloadDamaged found) (fault.Compressed other) a b = absurd (clash (is_gzip b.0) b.3.2 (subst (λ (x : List ℕ). IsFalse (is_gzip x)) (some_one file a.0 b.0 a.1 b.1) a.3.2))
fault_one name file (fault.PayloadDamaged found) (fault.TooLarge which count) a b = absurd (beyond (length a.0) count (sized file a.0 count a.1 b.0) b.2 a.2)
fault_one name file (fault.Compressed found) fault.PayloadMissing a b = absurd (not_none file a.0 b a.1)
fault_one name file (fault.Compressed found) (fault.PayloadDamaged other) a b = absurd (clash (is_gzip a.0) a.3.2 (subst (λ (x : List ℕ). IsFalse (is_gzip x)) (some_one file b.0 a.0 b.1 a.1) b.3.2))
fault_one name file (fault.Compressed found) (fault.Compressed other) a b = ap (outcome.Compressed name) (a.3.0 ∙ ap (digest_by name) (some_one file a.0 b.0 a.1 b.1) ∙ sym b.3.0)
fault_one name file (fault.Compressed found) (fault.TooLarge which count) a b = absurd (beyond (length a.0) count (sized file a.0 count a.1 b.0) b.2 a.2)
fault_one name file (fault.TooLarge which count) fault.PayloadMissing a b = absurd (no_size file count b a.0)
fault_one name file (fault.TooLarge which count) (fault.PayloadDamaged other) a b = absurd (beyond (length b.0) count (sized file b.0 count b.1 a.0) a.2 b.2)
fault_one name file (fault.TooLarge which count) (fault.Compressed other) a b = absurd (beyond (length b.0) count (sized file b.0 count b.1 a.0) a.2 b.2)
fault_one name file (fault.TooLarge which count) (fault.TooLarge other number) a b = ap₂ outcome.TooLarge (a.1 ∙ sym b.1) (same_size file a.0 b.0)
  where
    same_size : (f : Option (List ℕ)) → HasSize f count → HasSize f number → count ≡ number
    same_size None x y = absurd x
    same_size (Some bytes) x y = sym x ∙ y

payload_one : (repository : Image) (publisher other : List ℕ) (staged list : List Staged) (name named : PayloadName) (why because : RepoFault) → other ≡ publisher
    → ((n : ℕ) (p : PayloadName) → slice_get staged n ≡ Some (Payload p) → slice_get list n ≡ Some (Payload p))
    → ((n : ℕ) (p : PayloadName) → slice_get list n ≡ Some (Payload p) → slice_get staged n ≡ Some (Payload p))
    → IsFirstFault repository publisher staged name why → IsFirstFault repository other list named because → payload_told name why ≡ payload_told named because
payload_one repository publisher other staged list name named why because published to back a b = go (nat_cases a.at b.at)
  where
    there : List ℕ → PayloadName → Option (List ℕ)
    there p n = file_at repository (payload_place p n)

    before_b : a.at < b.at → ⊥
    before_b early = not_both name (there publisher name) why a.is (subst (λ (p : List ℕ). IsIntact name (there p name)) published (b.before a.at (Payload name) early (to a.at name a.stands)))

    before_a : b.at < a.at → ⊥
    before_a early = not_both named (there other named) because b.is (subst (λ (p : List ℕ). IsIntact named (there p named)) (sym published) (a.before b.at (Payload named) early (back b.at named b.stands)))

    here : a.at ≡ b.at → payload_told name why ≡ payload_told named because
    here at =
        let e : Some (Payload name) ≡ Some (Payload named) = sym (to a.at name a.stands) ∙ ap (slice_get list) at ∙ b.stands in
        let same : name ≡ named = cc in
        let is : IsPayloadFileFault named (there other named) why =
        subst (λ (n : PayloadName). IsPayloadFileFault n (there other n) why) same (subst (λ (p : List ℕ). IsPayloadFileFault name (there p name) why) (sym published) a.is) in
        ap (λ (n : PayloadName). payload_told n why) same ∙ fault_one named (there other named) why because is b.is

    nat_cases : (n m : ℕ) → (n < m) ⊎ ((m < n) ⊎ (n ≡ m))
    nat_cases zero zero = inr (inr refl)
    nat_cases zero (suc m) = inl (omega arith)
    nat_cases (suc n) zero = inr (inl (omega arith))
    nat_cases (suc n) (suc m) = elim (nat_cases n m) [
      | inl less ↦ inl (omega (arith, less))
      | inr other ↦ elim other [ inl more ↦ inr (inl (omega (arith, more))) | inr same ↦ inr (inr (ap suc same)) ]
    ]

    go : (a.at < b.at) ⊎ ((b.at < a.at) ⊎ (a.at ≡ b.at)) → payload_told name why ≡ payload_told named because
    go (inl early) = absurd (before_b early)
    go (inr (inl late)) = absurd (before_a late)
    go (inr (inr at)) = here at

-- ---- what is told of a recovery

-- Where the gate is open the steps that the marks leave can be laid.
abbrev CanGoOn : Image → Type 0
CanGoOn t = is_some (t.look gate_name) ≡ true → (steps : List Step) × (count : ℕ) × CanRollForward t steps count

-- The outcome tells the bad line of the journal behind an open gate.
record TellsBadLine (t : Image) (o : Outcome) : Type 0 where
  line : ℕ
  told : o ≡ outcome.BadJournal line
  open_gate : t.look gate_name ≡ None → ⊥
  left : Image
  before : List Carrier
  now : List Carrier
  bad : IsBadJournal t left before now line

-- what is told of a recovery: that it is done, or a bad journal
abbrev GoesBack : Image → Outcome → Type 0
GoesBack t o = ((o ≡ outcome.Recovered (is_some (t.look gate_name))) × CanGoOn t) ⊎ TellsBadLine t o

module _ (t : Image) where
  -- a journal whose steps can be laid isn't bad
  never_bad : (o : Outcome) → CanGoOn t → TellsBadLine t o → ⊥
  never_bad o can x = let (steps, count, roll) = can (stands (t.look gate_name) x.open_gate) in forward_or_bad t steps count x.left x.before x.now x.line roll x.bad
    where
      stands : (e : Option Entry) → (e ≡ None → ⊥) → is_some e ≡ true
      stands None some = absurd (some refl)
      stands (Some y) some = refl

  back_once : (a b : Outcome) → GoesBack t a → GoesBack t b → a ≡ b
  back_once a b (inl x) (inl y) = x.0 ∙ sym y.0
  back_once a b (inl x) (inr y) = absurd (never_bad b x.1 y)
  back_once a b (inr x) (inl y) = absurd (never_bad a y.1 x)
  back_once a b (inr x) (inr y) = x.told ∙ ap outcome.BadJournal (bad_once t x.left y.left x.before x.now y.before y.now x.line y.line x.bad y.bad) ∙ sym y.told

-- ---- what is told of an ending, by its way

module _ (n : Effect) (decides : Decision Outcome → Type 0) (once : DecidesOnce decides) (repository held : Image) where
  -- what is decided and fixed
  abbrev Fixes : Decision Outcome → Type 0
  Fixes d = decides d × IsFixedDecision d

  -- what an outcome says that tells an ending of this way
  abbrev Says : Way → Outcome → Type 0
  Says AtGate o = o ≡ outcome.Unfinished
  Says Recovering o = GoesBack held o
  Says InTheWay o = (p : RelPath) × IsFirstObstacle held p.bytes × (o ≡ outcome.BadImage p 0)
  Says Showing o = Fixes (decision.Shown o)
  Says Refusing o = Fixes (decision.Refused o)
  Says Needless o = o ≡ outcome.NothingToDo
  Says Damaged o = (c : Change Outcome) × Fixes (decision.Change c) × ((name : PayloadName) × (why : RepoFault) × IsFirstFault repository c.publisher c.staged.items name why × (o ≡ payload_told name why))
  Says Carrying o = (c : Change Outcome) × Fixes (decision.Change c) × (o ≡ c.told)
  Says Faulty o = ⊥

  alike_of : (d e : Decision Outcome) → DecideTheSame d e → AreAlike d e
  alike_of (decision.Shown a) (decision.Shown b) s = tt
  alike_of (decision.Shown a) (decision.Refused b) s = s
  alike_of (decision.Shown a) (decision.Change b) s = s
  alike_of (decision.Shown a) decision.Nothing s = s
  alike_of (decision.Refused a) (decision.Shown b) s = s
  alike_of (decision.Refused a) (decision.Refused b) s = tt
  alike_of (decision.Refused a) (decision.Change b) s = s
  alike_of (decision.Refused a) decision.Nothing s = s
  alike_of (decision.Change a) (decision.Shown b) s = s
  alike_of (decision.Change a) (decision.Refused b) s = s
  alike_of (decision.Change a) (decision.Change b) s = (s.1, s.2)
  alike_of (decision.Change a) decision.Nothing s = s
  alike_of decision.Nothing (decision.Shown b) s = s
  alike_of decision.Nothing (decision.Refused b) s = s
  alike_of decision.Nothing (decision.Change b) s = s
  alike_of decision.Nothing decision.Nothing s = tt

  alike : DecidesAlike Fixes
  alike d e a b = alike_of d e (once d e a.0 b.0 a.1 b.1)

  -- of an outcome that is fixed only what is decided and fixed counts
  unready_fixed : (x : Ending Outcome) → IsFixed (told_as x) → IsUnready n decides true repository x → IsUnready n Fixes true repository x
  unready_fixed (ending.Shown told) fixed (showing, decided) = (showing, (decided, fixed))
  unready_fixed (ending.Refused told) fixed decided = (decided, fixed)
  unready_fixed ending.NothingToDo fixed (asked, decided) = (asked, (decided, tt))
  unready_fixed (ending.BadPayload name why) fixed (asked, (c, decided, says)) = (asked, (c, (decided, tt), says))
  unready_fixed ending.SourceFault fixed is = is
  unready_fixed (ending.FolderFault unfinished) fixed is = is
  unready_fixed ending.OutOfMemory fixed is = is
  unready_fixed (ending.Done told) fixed is = is
  unready_fixed ending.Unfinished fixed is = is
  unready_fixed (ending.BadJournal line) fixed is = is
  unready_fixed (ending.Recovered forward) fixed is = is
  unready_fixed (ending.NotDirectory path) fixed is = is
  unready_fixed (ending.ActuatorFailed after words status) fixed is = is
  unready_fixed (ending.SpawnFault after) fixed is = is

  module _ (left : Image) (old now : List Carrier) (Ran : List Run → Type 0) where
    fixed_comes : (x : Ending Outcome) → IsFixed (told_as x) → Comes n decides true repository held left old now Ran x → Comes n Fixes true repository held left old now Ran x
    fixed_comes x fixed (Unopened why leaves same ran) = Unopened why leaves same ran
    fixed_comes x fixed (Unfinished unfixed there kept same ran) = Unfinished unfixed there kept same ran
    fixed_comes x fixed (Back fixing stopped says ran) = Back fixing stopped says ran
    fixed_comes x fixed (NotDirectory {path = path} creating shut way kept same ran) = NotDirectory {path = path} creating shut way kept same ran
    fixed_comes x fixed (Unready decide says leaves same ran) = Unready decide (unready_fixed x fixed says) leaves same ran
    fixed_comes x fixed (Carried c changes decide decided intact leaves says) = Carried c changes decide (decided, tt) intact leaves says

    says_unready : (x : Ending Outcome) → IsFixed (told_as x) → IsUnready n Fixes true repository x → Says (way_of x) (told_as x)
    says_unready (ending.Shown told) fixed says = says.1
    says_unready (ending.Refused told) fixed says = says
    says_unready ending.NothingToDo fixed says = refl
    says_unready (ending.BadPayload name why) fixed says = (says.1.0, says.1.1, (name, why, says.1.2.1 refl, refl))
    says_unready ending.SourceFault fixed says = absurd fixed
    says_unready (ending.FolderFault unfinished) fixed says = absurd fixed
    says_unready ending.OutOfMemory fixed says = absurd fixed
    says_unready (ending.Done told) fixed says = absurd says
    says_unready ending.Unfinished fixed says = absurd says
    says_unready (ending.BadJournal line) fixed says = absurd says
    says_unready (ending.Recovered forward) fixed says = absurd says
    says_unready (ending.NotDirectory path) fixed says = absurd says
    says_unready (ending.ActuatorFailed after words status) fixed says = absurd says
    says_unready (ending.SpawnFault after) fixed says = absurd fixed

    says_carried : (x : Ending Outcome) → IsFixed (told_as x) → (c : Change Outcome) → Fixes (decision.Change c) → IsCarriedTo (map step_of c.steps.items) c.before.items c.after.items c.told old now Ran x → Says (way_of x) (told_as x)
    says_carried (ending.Done told) fixed c decided says = (c, decided, says.0)
    says_carried (ending.ActuatorFailed after words status) fixed c decided says = absurd fixed
    says_carried (ending.SpawnFault after) fixed c decided says = absurd fixed
    says_carried (ending.FolderFault unfinished) fixed c decided says = absurd fixed
    says_carried ending.SourceFault fixed c decided says = absurd fixed
    says_carried ending.OutOfMemory fixed c decided says = absurd fixed
    says_carried (ending.Shown told) fixed c decided says = absurd says
    says_carried (ending.Refused told) fixed c decided says = absurd says
    says_carried ending.NothingToDo fixed c decided says = absurd says
    says_carried ending.Unfinished fixed c decided says = absurd says
    says_carried (ending.BadJournal line) fixed c decided says = absurd says
    says_carried (ending.Recovered forward) fixed c decided says = absurd says
    says_carried (ending.NotDirectory path) fixed c decided says = absurd says
    says_carried (ending.BadPayload name why) fixed c decided says = absurd says

    says_back : (x : Ending Outcome) → IsFixed (told_as x) → IsBackTo held left old now x → Says (way_of x) (told_as x)
    says_back (ending.Recovered forward) fixed says = inl (ap outcome.Recovered says.0, λ there. says.1 (says.0 ∙ there))
    says_back (ending.BadJournal line) fixed says = inr (record { line = line; told = refl; open_gate = says.0; left = left; before = old; now = now; bad = says.1 })
    says_back (ending.SpawnFault after) fixed says = absurd fixed
    says_back (ending.FolderFault unfinished) fixed says = absurd fixed
    says_back ending.SourceFault fixed says = absurd fixed
    says_back ending.OutOfMemory fixed says = absurd fixed
    says_back (ending.Done told) fixed says = absurd says
    says_back (ending.ActuatorFailed after words status) fixed says = absurd says
    says_back (ending.Shown told) fixed says = absurd says
    says_back (ending.Refused told) fixed says = absurd says
    says_back ending.NothingToDo fixed says = absurd says
    says_back ending.Unfinished fixed says = absurd says
    says_back (ending.NotDirectory path) fixed says = absurd says
    says_back (ending.BadPayload name why) fixed says = absurd says

    says_unopened : (x : Ending Outcome) → IsFixed (told_as x) → IsUnopened x → Says (way_of x) (told_as x)
    says_unopened (ending.FolderFault unfinished) fixed is = absurd fixed
    says_unopened ending.OutOfMemory fixed is = absurd fixed
    says_unopened (ending.SpawnFault after) fixed is = absurd is
    says_unopened ending.SourceFault fixed is = absurd is
    says_unopened (ending.Done told) fixed is = absurd is
    says_unopened (ending.ActuatorFailed after words status) fixed is = absurd is
    says_unopened (ending.Shown told) fixed is = absurd is
    says_unopened (ending.Refused told) fixed is = absurd is
    says_unopened ending.NothingToDo fixed is = absurd is
    says_unopened ending.Unfinished fixed is = absurd is
    says_unopened (ending.NotDirectory path) fixed is = absurd is
    says_unopened (ending.BadPayload name why) fixed is = absurd is
    says_unopened (ending.BadJournal line) fixed is = absurd is
    says_unopened (ending.Recovered forward) fixed is = absurd is

    says_of : (x : Ending Outcome) → IsFixed (told_as x) → Comes n Fixes true repository held left old now Ran x → Says (way_of x) (told_as x)
    says_of x fixed (Unopened why leaves same ran) = says_unopened x fixed why
    says_of x fixed (Unfinished unfixed there kept same ran) = refl
    says_of x fixed (Back fixing stopped says ran) = says_back x fixed says
    says_of x fixed (NotDirectory {path = path} creating shut way kept same ran) = (path, way, refl)
    says_of x fixed (Unready decide says leaves same ran) = says_unready x fixed says
    says_of x fixed (Carried c changes decide decided intact leaves says) = says_carried x fixed c decided says

  not_faulty : (x : Ending Outcome) → IsFixed (told_as x) → is_faulty x ≡ false
  not_faulty (ending.SpawnFault after) fixed = absurd fixed
  not_faulty ending.SourceFault fixed = absurd fixed
  not_faulty (ending.FolderFault unfinished) fixed = absurd fixed
  not_faulty ending.OutOfMemory fixed = absurd fixed
  not_faulty (ending.Done told) fixed = refl
  not_faulty (ending.ActuatorFailed after words status) fixed = refl
  not_faulty (ending.Shown told) fixed = refl
  not_faulty (ending.Refused told) fixed = refl
  not_faulty ending.NothingToDo fixed = refl
  not_faulty ending.Unfinished fixed = refl
  not_faulty (ending.NotDirectory path) fixed = refl
  not_faulty (ending.BadPayload name why) fixed = refl
  not_faulty (ending.BadJournal line) fixed = refl
  not_faulty (ending.Recovered forward) fixed = refl

  obstacle_one : (p q : List ℕ) → IsFirstObstacle held p → IsFirstObstacle held q → p ≡ q
  obstacle_one p q (blocked, inl first) (bars, inl other) = first ∙ sym other
  obstacle_one p q (blocked, inl first) (bars, inr second) = absurd (clash (is_dir_or_free (held.look var_name)) second.1 (subst (λ (x : List ℕ). IsFalse (is_dir_or_free (held.look x))) first blocked))
  obstacle_one p q (blocked, inr second) (bars, inl first) = absurd (clash (is_dir_or_free (held.look var_name)) second.1 (subst (λ (x : List ℕ). IsFalse (is_dir_or_free (held.look x))) first bars))
  obstacle_one p q (blocked, inr second) (bars, inr other) = second.0 ∙ sym other.0

  bad_image : (p q : RelPath) → p.bytes ≡ q.bytes → SayTheSame (outcome.BadImage p 0) (outcome.BadImage q 0)
  bad_image p q e = record { number = refl; text = ap (λ (b : List ℕ). line (codes "bad image " ++ shown b ++ codes " line " ++ decimal 0)) e }

  said_once : (w : Way) (a b : Outcome) → Says w a → Says w b → SayTheSame a b
  said_once AtGate a b x y = says_same a b (x ∙ sym y)
  said_once Recovering a b x y = says_same a b (back_once held a b x y)
  said_once InTheWay a b (p, x, is) (q, y, was) = subst (λ (o : Outcome). SayTheSame o b) (sym is) (subst (SayTheSame (outcome.BadImage p 0)) (sym was) (bad_image p q (obstacle_one p.bytes q.bytes x y)))
  said_once Showing a b x y = once (decision.Shown a) (decision.Shown b) x.0 y.0 x.1 y.1
  said_once Refusing a b x y = once (decision.Refused a) (decision.Refused b) x.0 y.0 x.1 y.1
  said_once Needless a b x y = says_same a b (x ∙ sym y)
  said_once Damaged a b (c, x, (name, why, first, is)) (d, y, (named, because, other, was)) =
      let same = once (decision.Change c) (decision.Change d) x.0 y.0 x.1 y.1 in
      says_same a b (is ∙ payload_one repository c.publisher d.publisher c.staged.items d.staged.items name named why because same.1.publisher same.1.payloads same.2.payloads first other ∙ sym was)
  said_once Carrying a b (c, x, is) (d, y, was) =
      let same = once (decision.Change c) (decision.Change d) x.0 y.0 x.1 y.1 in
      subst (λ (o : Outcome). SayTheSame o b) (sym is) (subst (SayTheSame c.told) (sym was) same.0)
  said_once Faulty a b x y = absurd x

  -- two endings that come are told the same
  pub told_once : (left left' : Image) (old now old' now' : List Carrier) (Ran Ran' : List Run → Type 0) (x y : Ending Outcome) → IsFixed (told_as x) → IsFixed (told_as y)
      → Comes n decides true repository held left old now Ran x → Comes n decides true repository held left' old' now' Ran' y → SayTheSame (told_as x) (told_as y)
  told_once left left' old now old' now' Ran Ran' x y fixed other a b =
      let first = fixed_comes left old now Ran x fixed a in
      let second = fixed_comes left' old' now' Ran' y other b in
      let way = one_alone n Fixes repository held alike (way_of x) (way_of y) (before_run n Fixes repository held left old now Ran x first (not_faulty x fixed)) (before_run n Fixes repository held left' old' now' Ran' y second (not_faulty y other)) in
      said_once (way_of y) (told_as x) (told_as y) (subst (λ (w : Way). Says w (told_as x)) way (says_of left old now Ran x fixed first)) (says_of left' old' now' Ran' y other second)
