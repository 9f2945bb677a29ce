-- A run that repairs an image and claims that this is done leaves nothing to be found.
use Rattle.std.proofs.Common.{◌≡◌, ℕ, Bool, true, false, IfSome, IsTrue, List, [], Option, Ok, refl, sym, ◌∙◌, ap, subst, arith}
use Rattle.std.specs.declared.alloc.Global.{Global}
use Rattle.std.specs.declared.vec.Vec.{Vec}
use Rattle.std.proofs.lemmas.Option.{cond_some}
use Rattle.ips_text.specs.declared.refusal.Or.TheVariants.{Bad}
use Rattle.ips_outside.specs.Image.{Image, IsImage}
use Rattle.ips_outside.specs.Outside.{Outside}
use Rattle.ips_outside.specs.Running.{Run, Running}
use Rattle.ips_outside.specs.State as folder
use Rattle.ips_steps.specs.Private.{visible}
use Rattle.ips_steps.proofs.Lists.{clash}
use Rattle.ips_digest.specs.declared.name.PayloadName.{PayloadName}
use Rattle.ips_repo.specs.declared.fault.RepoFault.{RepoFault}
use Rattle.ips_repo.specs.declared.fault.RepoFault.TheVariants as repo
use Rattle.ips_kinds.specs.Tallies.{Carrier}
use Rattle.ips_journal.specs.declared.staged.Staged.{Staged}
use Rattle.ips_contents.specs.Contents.{AreIntactContents}
use Rattle.ips_state.specs.State.{recorded}
use Rattle.ips_state.specs.declared.state.State.{State}
use Rattle.ips_load.specs.declared.fault.StateFault.{StateFault}
use Rattle.ips_load.specs.declared.fault.StateFault.TheVariants as state
use Rattle.ips_entries.proofs.HeldOnce.{held_once}
use Rattle.ips_meaning.specs.declared.entry.Entry.{Entry}
use Rattle.ips_meaning.specs.declared.fault.WantFault.{WantFault}
use Rattle.ips_meaning.specs.declared.fault.WantFault.TheVariants as want
use Rattle.ips_after.specs.Findings.{findings}
use Rattle.ips_after.specs.Repaired.{HasOneMode}
use Rattle.ips_after.specs.Request.{Want}
use Rattle.ips_change.specs.wanted.Named.{is_payload_of}
use Rattle.ips_change.specs.wanted.Wanted.{want_of}
use Rattle.ips_plan.specs.image_plan.Meaning.{StateMeans}
use Rattle.ips_emit.specs.declared.emitting.Emitted.{Emitted}
use Rattle.ips_repair.specs.declared.fault.RepairFault.{RepairFault}
use Rattle.ips_repair.specs.declared.fault.RepairFault.TheVariants as repair
use Rattle.ips_history.specs.Transition.{Transition, Asked, Created, CreatedInPart, Kept}
use Rattle.ips_history.specs.declared.effect.Effect.TheVariants as effect
use Rattle.ips_report.specs.declared.outcome.Outcome.{Outcome}
use Rattle.ips_report.specs.declared.outcome.Outcome.TheVariants as outcome
use Rattle.ips_run.specs.declared.operation.Change.{Change}
use Rattle.ips_run.specs.declared.operation.Decision.{Decision}
use Rattle.ips_run.specs.declared.operation.Decision.TheVariants as decision
use Rattle.ips_run.specs.declared.ending.Ending.{Ending}
use Rattle.ips_run.specs.declared.ending.Ending.TheVariants as ending
use Rattle.ips_run.specs.Comes.{Comes, HasRun, IsBackTo, IsUnopened, IsUnready, Back, Carried, NotDirectory, Unfinished, Unopened, Unready}
use Rattle.ips_tell.specs.refusals.Told.{unmeant_told, unread_told}
use Rattle.ips_tell.specs.told.Told.{claims_done, manner_of, payload_told, told_as}
use Rattle.ips_tell.specs.told.Laying.{IsChangeOfSteps}
use Rattle.ips_words.specs.declared.command.Command.{Command}
use Rattle.ips_words.specs.declared.what.What.{What}
use Rattle.ips_operations.specs.creating.Creations.{makes_image}
use Rattle.ips_operations.specs.fixing.Fixes.{Repairing, repairs}
use Rattle.ips_operations.specs.fixing.Decides.{Decides, IsRepairedBy, RepairsImage, Told, repairs_of, OldFormat, Repaired, Sound, Unmeant, Unread, Unrepaired}
use Rattle.ips_operations.specs.fixing.Told.{unrepaired_told}
use Rattle.ips_laws.proofs.plan_laws.States.{meaning_same}
use Rattle.ips_laws.proofs.plan_laws.Wants.{want_like}
use Rattle.ips_tell.specs.performing.Performed.{At, IsPerformed}
use Rattle.ips_top.specs.Runs.{Does, IsAnswered, Answers, Changes, Creates, Fixes, Shows, Tries}
use Rattle.ips_laws.proofs.answers.Answers.{apart, of_changing, of_creating, of_fixing, of_shown, of_tried}
use Rattle.ips_laws.proofs.answers.Cleaned.{Laws, none_found}
use Rattle.ips_laws.proofs.answers.Told.{none_decided, refusal}
use Rattle.ips_laws.proofs.answers.Visible.{noted_once}

-- ---- what is decided

-- the outcome claims that a change is done
abbrev pub Claims : Outcome → Type 0
Claims o = claims_done (manner_of o) ≡ true

module _ (a : Repairing) (t : Image) where
  -- a change is the one that repairs the image, and no refusal claims to have changed something
  abbrev pub IsHonest : Decision Outcome → Type 0
  IsHonest (decision.Change c) = (new : State) × (e : Emitted) × IsRepairedBy a t new e × IsChangeOfSteps new.publisher e c
  IsHonest (decision.Refused o) = claims_done (manner_of o) ≡ false
  IsHonest (decision.Shown o) = Unit {0}
  IsHonest decision.Nothing = Unit {0}

  unread_honest : (why : StateFault) (d : Decision Outcome) → unread_told (Bad why) ≡ Ok d → IsHonest d
  unread_honest state.NoImage d is = subst IsHonest (sym (refusal outcome.NoImage d is)) refl
  unread_honest (state.BadImage file number) d is = subst IsHonest (sym (refusal (outcome.BadImage file number) d is)) refl
  unread_honest (state.TooLarge which count) d is = subst IsHonest (sym (refusal (outcome.TooLarge which count) d is)) refl
  unread_honest state.FolderFault d is = none_decided (IsHonest d) _ d is

  unmeant_honest : (why : WantFault) → IsHonest (unmeant_told why)
  unmeant_honest (want.Reserved path) = refl
  unmeant_honest (want.Clash clash) = refl

  unrepaired_honest : (why : RepairFault) (d : Decision Outcome) → unrepaired_told (Bad why) ≡ Ok d → IsHonest d
  unrepaired_honest (repair.Unmovable path) d is = subst IsHonest (sym (refusal (outcome.Unmovable path) d is)) refl
  unrepaired_honest (repair.TooLarge excess) d is = subst IsHonest (sym (refusal (outcome.TooLarge excess.which excess.count) d is)) refl
  unrepaired_honest repair.FolderFault d is = none_decided (IsHonest d) _ d is

  honest : (d : Decision Outcome) → Decides a t d → IsHonest d
  honest d (Unread why bad told) = unread_honest why d told
  honest d (OldFormat s holds first) = refl
  honest d (Unmeant told why fails is) = subst IsHonest (sym is) (unmeant_honest why)
  honest d (Sound told sound) = tt
  honest d (Unrepaired why x told) = unrepaired_honest why d told
  honest d (Repaired new e c by change) = (new, e, by, change)

-- ---- what is carried out

module _ (a : Repairing) (t repository held left : Image) (old now : List Carrier) (Ran : List Run → Type 0) where
  not_unopened : (x : Ending Outcome) → Claims (told_as x) → IsUnopened x → ⊥
  not_unopened (ending.FolderFault unfinished) claims is = cc
  not_unopened ending.OutOfMemory claims is = cc
  not_unopened ending.SourceFault claims is = is
  not_unopened (ending.SpawnFault after) claims is = is
  not_unopened (ending.Done told) claims is = is
  not_unopened (ending.ActuatorFailed after words status) claims is = is
  not_unopened (ending.Shown told) claims is = is
  not_unopened (ending.Refused told) claims is = is
  not_unopened ending.NothingToDo claims is = is
  not_unopened ending.Unfinished claims is = is
  not_unopened (ending.NotDirectory path) claims is = is
  not_unopened (ending.BadPayload name why) claims is = is
  not_unopened (ending.BadJournal line) claims is = is
  not_unopened (ending.Recovered forward) claims is = is

  not_back : (x : Ending Outcome) → Claims (told_as x) → IsBackTo held left old now x → ⊥
  not_back (ending.FolderFault unfinished) claims is = cc
  not_back ending.OutOfMemory claims is = cc
  not_back (ending.BadJournal line) claims is = cc
  not_back (ending.Recovered forward) claims is = cc
  not_back ending.SourceFault claims is = is
  not_back (ending.SpawnFault after) claims is = is
  not_back (ending.Done told) claims is = is
  not_back (ending.ActuatorFailed after words status) claims is = is
  not_back (ending.Shown told) claims is = is
  not_back (ending.Refused told) claims is = is
  not_back ending.NothingToDo claims is = is
  not_back ending.Unfinished claims is = is
  not_back (ending.NotDirectory path) claims is = is
  not_back (ending.BadPayload name why) claims is = is

  no_payload : (name : PayloadName) (why : RepoFault) → Claims (payload_told name why) → ⊥
  no_payload name repo.PayloadMissing claims = cc
  no_payload name (repo.PayloadDamaged found) claims = cc
  no_payload name (repo.Compressed found) claims = cc
  no_payload name (repo.TooLarge which count) claims = cc
  no_payload name repo.NoRepository claims = cc
  no_payload name (repo.BadCatalog why) claims = cc
  no_payload name repo.ManifestMissing claims = cc
  no_payload name (repo.BadManifest why) claims = cc
  no_payload name repo.SourceFault claims = cc

  not_unready : (x : Ending Outcome) → Claims (told_as x) → IsUnready effect.Fixes (Decides a t) true repository x → ⊥
  not_unready (ending.Shown told) claims is = clash true refl (sym is.0)
  not_unready (ending.Refused told) claims is = clash (claims_done (manner_of told)) claims (honest a t (decision.Refused told) is)
  not_unready ending.NothingToDo claims is = cc
  not_unready (ending.BadPayload name why) claims is = no_payload name why claims
  not_unready ending.SourceFault claims is = cc
  not_unready (ending.FolderFault unfinished) claims is = cc
  not_unready ending.OutOfMemory claims is = cc
  not_unready (ending.SpawnFault after) claims is = is
  not_unready (ending.Done told) claims is = is
  not_unready (ending.ActuatorFailed after words status) claims is = is
  not_unready ending.Unfinished claims is = is
  not_unready (ending.NotDirectory path) claims is = is
  not_unready (ending.BadJournal line) claims is = is
  not_unready (ending.Recovered forward) claims is = is

  -- a change that was decided on is, and its payloads are intact
  carried : (x : Ending Outcome) → Claims (told_as x) → Comes effect.Fixes (Decides a t) true repository held left old now Ran x → (c : Change Outcome) × Decides a t (decision.Change c) × AreIntactContents repository c.publisher c.staged.items
  carried x claims (Unopened why leaves same ran) = absurd (not_unopened x claims why)
  carried x claims (Unfinished unfixed there kept same ran) = absurd cc
  carried x claims (Back fixing stopped says ran) = absurd (not_back x claims says)
  carried x claims (NotDirectory {path = path} creating shut way kept same ran) = absurd cc
  carried x claims (Unready decide says leaves same ran) = absurd (not_unready x claims says)
  carried x claims (Carried c changes decide decided intact leaves says) = (c, decided, intact refl)

-- ---- the run

-- what is told with nothing done claims nothing
pub not_answered : (w : What) (told : Outcome) → Claims told → IsAnswered w told → ⊥
not_answered w (outcome.Shown text) claims is = cc
not_answered w outcome.OutOfMemory claims is = cc
not_answered w told claims is = is

module _ {F S P : Type 0} (o : Outside F) (q : Outside S) (r : Running P) (c : Command) (moment : ℕ) (old new : At F S P) (told : Outcome) (claims : Claims told) where
  abbrev a : Repairing
  a = record { command = c; moment = moment }

  -- the command repairs an image
  performed : repairs c.what ≡ true → Does o q r c moment old new told → IsPerformed o q r effect.Fixes (λ t repository image d. Decides a image d) (repairs_of a) old new told
  performed fixes (Fixes b is x) =
      subst (λ (z : Repairing). IsPerformed o q r effect.Fixes (λ t repository image d. Decides z image d) (repairs_of z) old new told) (sym (cond_some (repairs c.what) a b is).1) x
  performed fixes (Shows b is x) = apart _ c.what 3 0 (λ e. omega (arith, e)) (of_fixing c.what fixes) (of_shown c.what b is)
  performed fixes (Changes is x) = apart _ c.what 3 1 (λ e. omega (arith, e)) (of_fixing c.what fixes) (of_changing c.what is)
  performed fixes (Creates b is x) = apart _ c.what 3 2 (λ e. omega (arith, e)) (of_fixing c.what fixes) (of_creating c.what (cond_some (makes_image c.what) _ b is).0)
  performed fixes (Tries n is x left) = apart _ c.what 3 4 (λ e. omega (arith, e)) (of_fixing c.what fixes) (of_tried c.what n is)
  performed fixes (Answers x left) = absurd (not_answered c.what told claims x)

  -- what is then seen is what the command means
  meant : (means : Image → Image → Type 0) (done : Bool) → done ≡ true → Transition o means effect.Fixes done old.folder new.folder → means (visible (o.state old.folder).held) (visible (o.state new.folder).held)
  meant means done is (Kept none request still) = clash done is none
  meant means done is (Asked at later changes synced same still request) =
      let reached = subst (λ (z : Option Image). IfSome z (means (visible (o.state at).held))) (request.done is).seen request.is_meant in
      subst (λ (s : folder.State). means (visible s.held) (visible (o.state new.folder).held)) synced reached
  meant means done is (Created at creates x y request) = clash true refl (sym creates)
  meant means done is (CreatedInPart creates none x) = clash done is none

  module _ (tells : IsTrue (o.tells old.folder)) (reads : IsTrue (q.tells old.source)) (formed : IsImage (o.state old.folder).held) where
    abbrev held : Image
    held = (o.state old.folder).held

    abbrev repository : Image
    repository = (q.state old.source).held

    abbrev left : Image
    left = (o.state new.folder).held

    module _ (laws : Laws) (known : Told held) (entries : List (List ℕ × Entry)) (means : StateMeans known.state entries) (modes : HasOneMode (want_of entries) (visible held)) where
      -- against what the packages of the state mean that was repaired
      by_repair : (new_state : State) (e : Emitted) (ch : Change Outcome) → IsRepairedBy a held new_state e → IsChangeOfSteps new_state.publisher e ch → AreIntactContents repository ch.publisher ch.staged.items → RepairsImage a repository (visible held) (visible left)
          → findings is_payload_of (want_of entries) (visible left) ≡ []
      by_repair new_state e ch by change intact theirs =
          let told = held_once held (recorded known.state) (recorded by.is_new.told.state) known.holds by.is_new.told.holds in
          let wants : want_of entries ≡ want_of by.damaged.want = want_like entries by.damaged.want (meaning_same known.state by.is_new.told.state told entries by.damaged.want means by.damaged.means) in
          let contents = subst (λ (z : Vec Staged Global). AreIntactContents repository new_state.publisher z.items) change.staged (subst (λ (p : List ℕ). AreIntactContents repository p ch.staged.items) change.publisher_is intact) in
          ap (λ (w : Want). findings is_payload_of w (visible left)) wants
          ∙ none_found laws a held repository formed new_state e by change.named contents theirs.new (visible left) (noted_once a held theirs.whole new_state theirs.new theirs.seen by.is_new theirs.is_new) theirs.is
          (subst (λ (w : Want). HasOneMode w (visible held)) wants modes)

      pub left_clean : repairs c.what ≡ true → Does o q r c moment old new told → findings is_payload_of (want_of entries) (visible left) ≡ []
      left_clean fixes does =
          let x = performed fixes does in
          let (ends, is, comes) = x.comes tells in
          let there = subst (λ (v : Bool). Comes effect.Fixes (Decides a held) v repository held left old.counted new.counted (HasRun r old.spawner new.spawner) ends) reads comes in
          let (ch, decided, intact) = carried a held repository held left old.counted new.counted (HasRun r old.spawner new.spawner) ends (subst Claims is claims) there in
          let (new_state, e, by, change) = honest a held (decision.Change ch) decided in
          by_repair new_state e ch by change intact (meant (repairs_of a (q.tells old.source) repository) (claims_done (manner_of told)) claims (x.run tells).transition reads)
