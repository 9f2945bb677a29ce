-- What is seen once the steps of a repair are laid is the repaired image.
use Rattle.std.proofs.Common.{◌≡◌, ℕ, true, List, map, None, refl, sym, ◌∙◌, subst}
use Rattle.ips_outside.specs.Image.{Image, IsImage}
use Rattle.ips_steps.specs.Private.{gate_name, visible}
use Rattle.ips_steps.specs.Steps.{Stage, all_laid}
use Rattle.ips_steps.specs.View.{step_of}
use Rattle.ips_contents.specs.Contents.{StagedContents}
use Rattle.ips_commit.specs.Staging.{CanStage}
use Rattle.ips_state.specs.declared.state.State.{State}
use Rattle.ips_moment.specs.Moment.{IsMomentText}
use Rattle.ips_meaning.specs.declared.entry.Entry.{Entry}
use Rattle.ips_after.specs.Planned.{IsNameable}
use Rattle.ips_after.specs.Repaired.{IsRepair, Repair, request_of}
use Rattle.ips_after.specs.Request.{Request}
use Rattle.ips_after.specs.Salvage.{IsImageAfter}
use Rattle.ips_after.proofs.Displaced.{after_repaired}
use Rattle.ips_after.proofs.Mended.{is_request}
use Rattle.ips_after.proofs.Seen.{visible_formed}
use Rattle.ips_change.specs.wanted.Named.{is_payload_of}
use Rattle.ips_due.specs.Asked.{AreMeant}
use Rattle.ips_due.specs.Due.{IsDue, IsOverOf}
use Rattle.ips_request_due.specs.repairs.Repairing.{repair_between, repair_due}
use Rattle.ips_emit.specs.declared.emitting.Emitted.{Emitted}
use Rattle.ips_image_steps.specs.Answers.{CanBeListed}
use Rattle.ips_image_steps.specs.staged_plans.Payloads.{payload_bytes}
use Rattle.ips_image_steps.proofs.staged_plans.Seen.{said_seen}
use Rattle.ips_image_steps.proofs.staged_plans.Staging.{image_after, stages}
use Rattle.ips_repair.specs.Meant.{IsRepairedImage}
use Rattle.ips_repair.specs.Repairing.{AreStepsToRepair}

module _ (new : State) (want : List (List ℕ × Entry)) (means : AreMeant new.settings new.mediators.items new.installed.items want) (h : Image) (formed : IsImage h) (moment : ℕ) (text : List ℕ) (is_text : IsMomentText moment text)
    (e : Emitted) (are : AreStepsToRepair text new.history.items want h e) (hangs : IsDue (repair_due new.history.items))
    (lawful : (bytes : List ℕ → List ℕ) → IsRepair (repair_between want bytes is_payload_of are.over))
    (names : (bytes : List ℕ → List ℕ) → IsNameable (request_of (repair_between want bytes is_payload_of are.over) h) h)
    (one : (bytes : List ℕ → List ℕ) → request_of (repair_between want bytes is_payload_of are.over) (visible h) ≡ request_of (repair_between want bytes is_payload_of are.over) h) where
  -- records say the same of what is seen
  says_seen : (bytes : List ℕ → List ℕ) → IsOverOf bytes is_payload_of (repair_due new.history.items) (visible h) are.over
  says_seen bytes =
      let o = are.says bytes in
      record { at = λ q. o.at q ∙ sym (said_seen bytes is_payload_of (repair_due new.history.items) h hangs q); accounts = o.accounts; keyed = o.keyed; closed = o.closed; only = o.only; by_bytes = o.by_bytes }

  pub image_seen : (repository : Image) (stage : Stage) → StagedContents true repository new.publisher h e.staged.items stage
      → IsRepairedImage moment new repository (visible h) (visible (all_laid stage (map step_of e.steps.items) h))
  image_seen repository stage given =
      let bytes = payload_bytes new.publisher repository in
      let f : Repair = repair_between want bytes is_payload_of are.over in
      let u = visible (all_laid stage (map step_of e.steps.items) h) in
      let after = image_after text (request_of f h) h e (are.steps bytes) (is_request f h (lawful bytes)) formed new.publisher repository stage (names bytes) refl given in
      record {
        text = text;
        is_text = is_text;
        want = want;
        means = means;
        over = are.over;
        is_over = says_seen bytes;
        image = after_repaired f (visible h) (lawful bytes) (visible_formed h formed) text u (subst (λ (r : Request). IsImageAfter text r (visible h) u) (sym (one bytes)) after);
      }

-- the steps can be staged
pub can_stage : (text : List ℕ) (history : List (List ℕ)) (want : List (List ℕ × Entry)) (h : Image) (e : Emitted) (are : AreStepsToRepair text history want h e) → IsRepair (repair_between want (λ p. p) is_payload_of are.over) → IsImage h → CanBeListed e → h.look gate_name ≡ None
    → CanStage (map step_of e.steps.items) e.staged.items h
can_stage text history want h e are lawful formed lists shut =
    let f : Repair = repair_between want (λ p. p) is_payload_of are.over in
    stages text (request_of f h) h e (are.steps (λ p. p)) (is_request f h lawful) formed lists shut
