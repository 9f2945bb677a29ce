-- A plan of a request can be staged, and means the image after the request.
use Rattle.std.proofs.Common.{◌≡◌, ◌<◌, ℕ, Bool, true, List, map, None, Ok, sym, ap, subst, ◌∙◌, inl}
use Rattle.std.proofs.lemmas.List.{length-map}
use Rattle.ips_action.specs.Action.{Fields}
use Rattle.ips_outside.specs.Image.{Image, IsImage, is_dir}
use Rattle.ips_steps.specs.Private.{gate_name, records_name, visible}
use Rattle.ips_steps.specs.Steps.{Stage, Step, all_laid}
use Rattle.ips_steps.specs.View.{step_of}
use Rattle.ips_journal.specs.declared.staged.Staged.{Staged}
use Rattle.ips_moment.specs.Moment.{IsMomentText}
use Rattle.ips_state.specs.declared.state.State.{State}
use Rattle.ips_state.specs.State.{recorded}
use Rattle.ips_books.specs.Seen.{accounts as books_seen}
use Rattle.ips_after.specs.Request.{Over, Request}
use Rattle.ips_contents.specs.Contents.{StagedContents}
use Rattle.ips_commit.specs.Staging.{CanStage}
use Rattle.ips_change.specs.wanted.Named.{is_payload_of}
use Rattle.ips_change.specs.wanted.Wanted.{want_of}
use Rattle.ips_due.specs.Due.{Due, FitsAccounts, IsOverOf}
use Rattle.ips_due.proofs.Asking as asking
use Rattle.ips_due.specs.outstanding.Parts.{due_file}
use Rattle.ips_emit.specs.Emitted.{staged_bytes}
use Rattle.ips_image_steps.proofs.plan_steps.Seen.{means_plan, possible_plan, sound_plan}
use Rattle.ips_image_steps.specs.Answers.{CanBeListed, HasSteps}
use Rattle.ips_account_files.specs.Around.{Around}
use Rattle.ips_account_files.specs.Behind.{Behind, Files, files_seen}
use Rattle.ips_account_files.specs.declared.files.AccountFiles.{AccountFiles}
use Rattle.ips_plan.specs.image_plan.Accounts.{Given, IsLedger}
use Rattle.ips_plan.specs.image_plan.Behind.{IsPlanned}
use Rattle.ips_plan.specs.image_plan.Steps.{IsSaidBetween, said_between}
use Rattle.ips_plan.specs.declared.image_plan.between.Between.{Between}
use Rattle.ips_plan.specs.request_plan.Plans.{IsRequestPlan, IsPlanBetween}
use Rattle.ips_plan.specs.declared.request_plan.planning.Plan.{Plan}
use Rattle.ips_image_steps.specs.staged_plans.Payloads.{payload_bytes}
use Rattle.ips_plan.specs.requested.Meant.{IsMeant, given_telling}
use Rattle.ips_image_steps.proofs.staged_plans.Bare.{possible_alike}
use Rattle.ips_image_steps.proofs.staged_plans.Contents.{alike_with, contents_are, contents_with, stage_with}
use Rattle.ips_plan.proofs.requested.Fitting.{ledger_fits}
use Rattle.ips_plan.proofs.requested.Legacy.{legacy_kept}

-- the bytes of each payload, where none are known
abbrev no_bytes : List ℕ → List ℕ
no_bytes payload = payload

module _ (fits : (a : Around) (r : Request) (old new : List Fields) (files : Files) (due : Due) → Behind a r old new (Ok files) → due.accounts ≡ files.due → FitsAccounts due r.new)
    (g : Given) (text : List ℕ) (b : Between) (accept : Bool) (p : Plan) (plan : IsPlanBetween g text b accept p) (told : g.told ≡ true) (formed : IsImage g.image) (stands : is_dir (g.image.look records_name) ≡ true) where
  abbrev t : Image
  t = g.image

  abbrev steps : List Step
  steps = map step_of p.planned.emitted.steps.items

  abbrev staged : List Staged
  staged = p.planned.emitted.staged.items

  abbrev files : AccountFiles
  files = plan.files

  abbrev planned : IsPlanned g.told t text b (map due_file files.due.items) (books_seen files.books) accept p.planned
  planned = plan.is_plan.planned

  abbrev due : Due
  due = planned.due

  fit : FitsAccounts due (want_of b.is.now)
  fit = ledger_fits fits g b.old.now b.new.now b.was.now b.is.now no_bytes (files_seen files) (plan.are_files no_bytes) due planned.is_due.means.accounts

  -- what account files and records say where this is due makes a lawful request of it
  said : (bytes : List ℕ → List ℕ) (over : Over) → IsOverOf bytes is_payload_of due t over → IsSaidBetween b due t bytes over
  said bytes over of = record {
    is_over = of;
    good = asking.is_asked _ _ _ _ _ _ b.was.now b.is.now plan.meant.old plan.meant.new bytes is_payload_of due t over planned.together of fit
        (asking.leaves _ _ _ _ _ _ b.was.now b.is.now plan.meant.old plan.meant.new bytes is_payload_of due t over planned.together of
        (legacy_kept (map due_file files.due.items) (recorded b.old.now) (recorded b.new.now) planned.is_due.was planned.is_due.is due planned.is_due.means planned.together b.new.now.settings b.new.now.mediators.items b.new.now.installed.items (books_seen files.books) plan.meant.new.mean.taken
        planned.is_due.is_delivered));
    stands = stands;
    leaves = inl (planned.apart bytes is_payload_of t over of);
  }

  steps_of_it : (bytes : List ℕ → List ℕ) (over : Over) → IsOverOf bytes is_payload_of due t over → HasSteps text (said_between b bytes over) t p.planned.emitted
  steps_of_it bytes over of = planned.planned.steps.steps told bytes over (said bytes over of)

  can_stage : t.look gate_name ≡ None → CanStage steps staged t
  can_stage shut =
      let over = planned.planned.steps.over told no_bytes in
      let r = said_between b no_bytes over.0 in
      let good = (said no_bytes over.0 over.1).good in
      let h = steps_of_it no_bytes over.0 over.1 in
      let contents = map (staged_bytes no_bytes t) staged in
      record {
        is_sound = sound_plan text r t steps contents h.plan good formed h.own;
        counted = planned.planned.steps.lists.counted;
        standing = h.standing;
        can = λ stage has. sym (possible_alike (stage_with contents stage) stage (alike_with contents stage (λ n less. has n (subst (λ (k : ℕ). n < k) (length-map staged (staged_bytes no_bytes t)) less))) steps t)
            ∙ possible_plan text r t steps contents h.plan good formed h.own (stage_with contents stage) (contents_with contents stage);
        records = stands;
        shut = shut;
      }

  module _ (moment : ℕ) (is_text : IsMomentText moment text) (tells : g.tells ≡ true) (publisher : g.publisher ≡ b.new.now.publisher) where
    abbrev bytes : List ℕ → List ℕ
    bytes = payload_bytes b.new.now.publisher g.repository

    telling : g ≡ given_telling b.new.now g.repository t
    telling = λ i. record { told = told i; image = g.image; tells = tells i; publisher = publisher i; repository = g.repository }

    meant : (stage : Stage) → StagedContents true g.repository b.new.now.publisher t staged stage → IsMeant moment b.old.now b.new.now g.repository t (visible (all_laid stage steps t))
    meant stage of =
        let over = planned.planned.steps.over told bytes in
        let r = said_between b bytes over.0 in
        let h = steps_of_it bytes over.0 over.1 in
        record {
          text = text;
          is_text = is_text;
          was = b.was.now;
          old_means = plan.meant.old;
          is = b.is.now;
          new_means = plan.meant.new;
          files = files_seen files;
          are_files = subst (λ (x : Given). IsLedger x b.old.now b.new.now b.was.now b.is.now bytes (Ok (files_seen files))) telling (plan.are_files bytes);
          due = due;
          is_due = planned.is_due;
          over = over.0;
          is_over = over.1;
          image = means_plan text r t steps (map (staged_bytes bytes t) staged) h.plan (said bytes over.0 over.1).good formed h.own
              (asking.is_nameable _ _ _ _ _ _ b.was.now b.is.now plan.meant.old plan.meant.new bytes is_payload_of due t over.0 planned.together over.1 stands) stage (contents_are b.new.now.publisher g.repository t staged stage of);
        }

module _ (fits : (a : Around) (r : Request) (old new : List Fields) (files : Files) (due : Due) → Behind a r old new (Ok files) → due.accounts ≡ files.due → FitsAccounts due r.new)
    (g : Given) (text : List ℕ) (old new : State) (accept : Bool) (p : Plan) (plan : IsRequestPlan g text old new accept p) (told : g.told ≡ true) (formed : IsImage g.image) (stands : is_dir (g.image.look records_name) ≡ true) where
  pub plan_stages : g.image.look gate_name ≡ None → CanStage (map step_of p.planned.emitted.steps.items) p.planned.emitted.staged.items g.image
  plan_stages shut = can_stage fits g text plan.between accept p plan.is_plan told formed stands shut

  pub plan_means : (moment : ℕ) → IsMomentText moment text → g.tells ≡ true → g.publisher ≡ new.publisher → (stage : Stage) → StagedContents true g.repository new.publisher g.image p.planned.emitted.staged.items stage
      → IsMeant moment old new g.repository g.image (visible (all_laid stage (map step_of p.planned.emitted.steps.items) g.image))
  plan_means moment is_text tells publisher stage of =
      let b = plan.between in
      let after = visible (all_laid stage (map step_of p.planned.emitted.steps.items) g.image) in
      subst (λ (s : State). IsMeant moment s new g.repository g.image after) plan.is_between.old_is
      (subst (λ (s : State). IsMeant moment b.old.now s g.repository g.image after) plan.is_between.new_is
      (meant fits g text b accept p plan.is_plan told formed stands moment is_text tells (publisher ∙ sym (ap (λ (s : State). s.publisher) plan.is_between.new_is)) stage
      (subst (λ (s : State). StagedContents true g.repository s.publisher g.image p.planned.emitted.staged.items stage) (sym plan.is_between.new_is) of)))

-- a journal can list its steps, and none is taken from the updater's own names
pub plan_listed : (g : Given) (text : List ℕ) (old new : State) (accept : Bool) (p : Plan) → IsRequestPlan g text old new accept p → CanBeListed p.planned.emitted
plan_listed g text old new accept p plan = plan.is_plan.is_plan.planned.planned.steps.lists
