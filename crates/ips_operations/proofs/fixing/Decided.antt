-- What is decided, from what each step found.
use Rattle.std.proofs.Common.{◌≡◌, ◌≢◌, ◌⊎◌, ℕ, ◌==◌, Bool, true, false, ◌||◌, IsTrue, List, [], ◌∷◌, Option, Some, None, is_none, length, map, Ok, Err, inl, inr, refl, sym, ap, subst, ◌∙◌}
use Rattle.std.specs.Prelude.{Result, IfOk}
use Rattle.std.proofs.lemmas.Bool.{eqb-true, true≢false}
use Rattle.std.proofs.lemmas.List.{nil_from_length}
use Rattle.std.specs.declared.vec.Vec.{Vec}
use Rattle.std.specs.declared.alloc.Global.{Global}
use Rattle.ips_text.specs.Ancestry.{covers, same_path}
use Rattle.ips_text.specs.Reading.{IfBad}
use Rattle.ips_text.specs.declared.refusal.Or.{Or}
use Rattle.ips_text.specs.declared.refusal.Or.TheVariants.{Bad, OutOfMemory}
use Rattle.ips_outside.specs.Image.{Entry, Image, IsImage, file_bytes, is_dir}
use Rattle.ips_outside.specs.State as outside
use Rattle.ips_outside.specs.Outside.{Outside, Reads}
use Rattle.ips_outside.proofs.Reading.{reads_as}
use Rattle.ips_words.specs.declared.what.What.{What}
use Rattle.ips_words.specs.declared.what.What.TheVariants.{Fix}
use Rattle.ips_steps.specs.Steps.{Stage, all_laid}
use Rattle.ips_steps.specs.Private.{records_name, visible}
use Rattle.ips_steps.specs.View.{step_of}
use Rattle.ips_steps.specs.declared.step.Step as declared
use Rattle.ips_journal.specs.declared.staged.Staged.{Staged}
use Rattle.ips_contents.specs.Contents.{StagedContents}
use Rattle.ips_commit.specs.Staging.{CanStage}
use Rattle.ips_history.specs.declared.effect.Effect.TheVariants as effects
use Rattle.ips_state.specs.Records.{image_path}
use Rattle.ips_state.specs.State.{recorded}
use Rattle.ips_state.specs.Lawful.{IsLawful}
use Rattle.ips_state.specs.declared.state.State.{State}
use Rattle.ips_load.specs.declared.fault.StateFault.{StateFault}
use Rattle.ips_image.specs.Whole.{IsStateFault}
use Rattle.ips_asked.specs.Formed.{CanBeKept, HasLine}
use Rattle.ips_meaning.specs.declared.entry.Entry as meant
use Rattle.ips_meaning.specs.declared.finding.Finding as told_finding
use Rattle.ips_after.specs.Findings as after
use Rattle.ips_change.specs.wanted.Named.{is_payload_of}
use Rattle.ips_change.specs.wanted.Wanted.{want_of}
use Rattle.ips_verify.specs.Verified.{finding_told}
use Rattle.ips_meaning.specs.declared.fault.WantFault.{WantFault}
use Rattle.ips_plan.specs.image_plan.Meaning.{StateFails, StateMeans}
use Rattle.ips_emit.specs.declared.emitting.Emitted.{Emitted}
use Rattle.ips_repair.specs.Meant.{IsRepairedImage}
use Rattle.ips_repair.specs.Repairing.{AreRepairSteps, ComesOfRepairAt}
use Rattle.ips_repair.specs.declared.fault.RepairFault.{RepairFault}
use Rattle.ips_repair.specs.declared.fault.RepairFault.TheVariants as repair_fault
use Rattle.ips_report.specs.declared.outcome.Outcome.{Outcome}
use Rattle.ips_tell.specs.refusals.Told.{Answer, unmeant_told, unread_told}
use Rattle.ips_run.specs.declared.operation.Change.{Change}
use Rattle.ips_run.specs.declared.operation.Decision.{Decision}
use Rattle.ips_run.specs.declared.operation.Decision.TheVariants as decision
use Rattle.ips_run.specs.declared.operation.DecideFault.{DecideFault}
use Rattle.ips_run.specs.declared.operation.DecideFault.TheVariants as decide_fault
use Rattle.ips_run.specs.Planned.{CanBeListed, IfChange, IsOfEffect, IsPlanned}
use Rattle.ips_tell.specs.told.Told.{IsToldAs}
use Rattle.ips_tell.specs.told.Laying.{IsChangeOfSteps}
use Rattle.ips_plan_limits.specs.Limits.{first_excess}
use Rattle.ips_operations.specs.fixing.Fixes.{IsNoted, Repairing, repairs}
use Rattle.ips_operations.specs.fixing.Told.{unrepaired_told}
use Rattle.ips_operations.specs.fixing.Deciding.{AnswersRepair, CanRepair}
use Rattle.ips_operations.specs.fixing.Decides.{Decides, IsDamaged, IsNewState, Told, repairs_of, Repaired, Unmeant, Unread, Unrepaired}

-- ---- the command

-- the words of a command that repairs an image stand in a line
pub words_kept : (w : What) (words : List ℕ) → IsTrue (repairs w) → HasLine w words → CanBeKept words
words_kept Fix words fixes line = line
words_kept w words fixes line = absurd (true≢false (sym fixes))

-- ---- the state

pub second_format : (s : State) → s.format ≢ 1 → IsLawful (recorded s) → s.format ≡ 2
second_format s other lawful = second lawful.head.format
  where
    second : (s.format ≡ 1) ⊎ (s.format ≡ 2) → s.format ≡ 2
    second (inl first) = absurd (other first)
    second (inr is) = is

-- the records tell the state by which the image can be repaired
abbrev pub told_by : {F : Type 0} (o : Outside F) (a : Repairing) (folder : F) (s : State) → CanRepair o a folder s → IsTrue (o.tells folder) → Told (o.state folder).held
told_by o a folder s can tells = record { state = s; holds = can.holds tells; format = second_format s can.format can.lawful }

module _ (a : Repairing) (old new : State) (noted : IsNoted a old new) (want : List (List ℕ × meant.Entry)) where
  -- packages mean the same with another history
  pub means_after : StateMeans old want → StateMeans new want
  means_after means = subst (λ (s : State). StateMeans s want) (sym noted.rest) means

  pub means_before : StateMeans new want → StateMeans old want
  means_before means = subst (λ (s : State). StateMeans s want) noted.rest means

-- ---- the folder of the records

above_image : (covers records_name image_path ≡ true) × (same_path records_name image_path ≡ false)
unfolding records_name
above_image = (refl, refl)

-- the folder of the records stands where the records tell a state
pub records_told : (t : Image) (told : Told t) → IsImage t → IsTrue (is_dir (t.look records_name))
records_told t told formed = other _ _ (formed.below_dirs records_name image_path above_image.0 above_image.1) (some_file (t.look image_path) _ told.holds.head.file)
  where
    some_file : (e : Option Entry) (bytes : List ℕ) → file_bytes e ≡ Some bytes → is_none e ≡ false
    some_file None bytes h = cc
    some_file (Some e) bytes h = refl

    other : (b c : Bool) → b || c ≡ true → b ≡ false → c ≡ true
    other true c h is = absurd (true≢false is)
    other false c h is = h

-- what is told of the image behind a call that only read it is told of the one before it
pub told_before : {F : Type 0} (o : Outside F) (old new : F) (failure : Type 0) → Reads o old new failure → (P : Image → Type 0) → (IsTrue (o.tells new) → P (o.state new).held) → IsTrue (o.tells old) → P (o.state old).held
told_before o old new failure reads P by tells = subst (λ (s : outside.State). P s.held) reads.kept (by (reads.call.same_kind ∙ tells))

-- ---- what is found

module _ (found : List told_finding.Finding) (all : List after.Finding) (is : map finding_told found ≡ all) where
  pub none_found : (count : ℕ) → (count == 0) ≡ true → count ≡ length found → all ≡ []
  none_found count none counted = sym is ∙ ap (map finding_told) (nil_from_length found (sym counted ∙ eqb-true count 0 none))

  pub some_found : found ≢ [] → all ≢ []
  some_found some none = some (empty found (is ∙ none))
    where
      empty : (xs : List told_finding.Finding) → map finding_told xs ≡ [] → xs ≡ []
      empty [] h = refl
      empty (x ∷ xs) h = cc

-- ---- why nothing is repaired

-- something is told
if_told : (r : Answer) (P : Decision Outcome → Type 0) → ((d : Decision Outcome) → r ≡ Ok d → P d) → IfOk r P
if_told (Ok d) P by = by d refl
if_told (Err e) P by = tt

-- nothing is decided
undecided : (e : Or DecideFault) (r : Answer) (P : Decision Outcome → Type 0) → r ≡ Err e → IfOk r P
undecided e r P nothing = subst (λ (x : Answer). IfOk x P) (sym nothing) tt

pub unread_by : (X : Type 0) (a : Repairing) (t : Image) (e : Or StateFault) (r : Answer) → r ≡ unread_told e → IfBad {X = X} {E = StateFault} (Err e) (IsStateFault t) → IfOk r (Decides a t)
unread_by X a t (Bad why) r is h = if_told r (Decides a t) (λ d told. Unread why h (sym is ∙ told))
unread_by X a t OutOfMemory r is h = undecided OutOfMemory r (Decides a t) is

pub unmeant_by : (X : Type 0) (a : Repairing) (t : Image) (told : Told t) (e : Or WantFault) (why : WantFault) (d : Decision Outcome) → e ≡ Bad why
    → IfBad {X = X} {E = WantFault} (Err e) (StateFails told.state) → d ≡ unmeant_told why → Decides a t d
unmeant_by X a t told e why d is h by = Unmeant told why (subst (λ (x : Or WantFault). IfBad {X = X} {E = WantFault} (Err x) (StateFails told.state)) is h) by

-- where the image isn't repaired, no change is decided on, and just a call on the folder that failed is told as such
module _ {F X : Type 0} (o : Outside F) (old new : F) (repaired : Result X (Or RepairFault)) (reads : Reads o old new (repaired ≡ Err (Bad repair_fault.FolderFault))) where
  nothing_done : (r : Answer) → IfOk r (IsOfEffect effects.Fixes) → IfOk r (IfChange CanBeListed) → r ≢ Err (Bad decide_fault.SourceFault)
      → (repaired ≡ Err (Bad repair_fault.FolderFault) → r ≡ Err (Bad decide_fault.FolderFault)) → (r ≡ Err (Bad decide_fault.FolderFault) → repaired ≡ Err (Bad repair_fault.FolderFault))
      → IfOk r IsToldAs → AnswersRepair o old new r
  nothing_done r of_effect lists unasked to from says = record { of_effect = of_effect; says = says; lists = lists; unasked = unasked; reads = reads_as o old new _ _ reads to from }

  answers_as_told : (e : Or RepairFault) → repaired ≡ Err e → IfOk (unrepaired_told e) IsToldAs → AnswersRepair o old new (unrepaired_told e)
  answers_as_told (Bad (repair_fault.Unmovable path)) is = nothing_done _ tt tt (λ asked. cc) (λ failed. cc) (λ failed. cc)
  answers_as_told (Bad (repair_fault.TooLarge excess)) is = nothing_done _ tt tt (λ asked. cc) (λ failed. cc) (λ failed. cc)
  answers_as_told (Bad repair_fault.FolderFault) is = nothing_done _ tt tt (λ asked. cc) (λ failed. refl) (λ failed. is)
  answers_as_told OutOfMemory is = nothing_done _ tt tt (λ asked. cc) (λ failed. cc) (λ failed. cc)

  pub unrepaired_answers : (e : Or RepairFault) (r : Answer) → repaired ≡ Err e → r ≡ unrepaired_told e → IfOk r IsToldAs → AnswersRepair o old new r
  unrepaired_answers e r is told says = subst (λ (x : Answer). AnswersRepair o old new x) (sym told) (answers_as_told e is (subst (λ (x : Answer). IfOk x IsToldAs) told says))

module _ (a : Repairing) (t : Image) (new : State) (is_new : IsNewState a t new) (want : List (List ℕ × meant.Entry)) (means : StateMeans new want)
    (some : after.findings is_payload_of (want_of want) t ≢ []) where
  -- the image is damaged, by what the packages of the new state mean
  abbrev damaged_by : IsDamaged t is_new.told.state
  damaged_by = record { want = want; means = means_before a is_new.told.state new is_new.noted want means; found = some }

  pub unrepaired_by : (X : Type 0) (told : Bool) (moment : ℕ) (e : Or RepairFault) (r : Answer) → IsTrue told → a.moment ≡ moment → r ≡ unrepaired_told e
      → IfBad {X = X} {E = RepairFault} (Err e) (ComesOfRepairAt told t moment new.history.items want) → IfOk r (Decides a t)
  unrepaired_by X tells moment (Bad why) r told at is h = if_told r (Decides a t) (λ d known. Unrepaired why (record {
    new = new;
    is_new = is_new;
    damaged = damaged_by;
    comes = subst (λ (b : Bool). ComesOfRepairAt b t a.moment new.history.items want why) told
        (subst (λ (n : ℕ). ComesOfRepairAt tells t n new.history.items want why) (sym at) h);
  }) (sym is ∙ known))
  unrepaired_by X tells moment OutOfMemory r told at is h = undecided OutOfMemory r (Decides a t) is

  -- the image is repaired
  pub repaired_by : (moment : ℕ) (e : Emitted) (publisher : List ℕ) (c : Change Outcome) → a.moment ≡ moment → publisher ≡ new.publisher → IsChangeOfSteps publisher e c
      → AreRepairSteps moment new.history.items want t e → first_excess (map step_of e.steps.items) e.staged.items ≡ None → Decides a t (decision.Change c)
  repaired_by moment e publisher c at same change steps within = Repaired new e c (record {
    is_new = is_new;
    damaged = damaged_by;
    steps = subst (λ (n : ℕ). AreRepairSteps n new.history.items want t e) (sym at) steps;
    within = within;
  }) (subst (λ (p : List ℕ). IsChangeOfSteps p e c) same change)

-- ---- the change

module _ (e : Emitted) (publisher : List ℕ) (c : Change Outcome) (change : IsChangeOfSteps publisher e c) where
  -- it can be staged, and repairs the image
  pub change_planned : (a : Repairing) (moment : ℕ) (new : State) (t repository : Image) (tells : Bool) → a.moment ≡ moment → publisher ≡ new.publisher → IsNewState a t new
      → CanStage (map step_of e.steps.items) e.staged.items t
      → ((repository : Image) (contents : Stage) → StagedContents true repository new.publisher t e.staged.items contents
      → IsRepairedImage moment new repository (visible t) (visible (all_laid contents (map step_of e.steps.items) t)))
      → IsPlanned (repairs_of a) tells repository t c
  change_planned a moment new t repository tells at same is_new can meant = record {
    can = subst (λ (v : Vec declared.Step Global). CanStage (map step_of v.items) c.staged.items t) (sym change.steps) (subst (λ (v : Vec Staged Global). CanStage (map step_of e.steps.items) v.items t) (sym change.staged) can);
    is_meant = λ contents staged told. record {
      whole = t;
      seen = refl;
      new = new;
      is_new = is_new;
      is = subst (λ (n : ℕ). IsRepairedImage n new repository (visible t) (visible (all_laid contents (map step_of c.steps.items) t))) (sym at)
          (subst (λ (v : Vec declared.Step Global). IsRepairedImage moment new repository (visible t) (visible (all_laid contents (map step_of v.items) t))) (sym change.steps)
          (meant repository contents (as_staged contents staged told)));
    };
  }
    where
      as_staged : (contents : Stage) → StagedContents tells repository c.publisher t c.staged.items contents → IsTrue tells → StagedContents true repository new.publisher t e.staged.items contents
      as_staged contents staged told = subst (λ (b : Bool). StagedContents b repository new.publisher t e.staged.items contents) told
          (subst (λ (p : List ℕ). StagedContents tells repository p t e.staged.items contents) (change.publisher_is ∙ same)
          (subst (λ (v : Vec Staged Global). StagedContents tells repository c.publisher t v.items contents) change.staged staged))
