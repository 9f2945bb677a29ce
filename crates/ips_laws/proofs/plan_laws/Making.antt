-- The steps that make an image are one, and so is why there are none.
use Rattle.std.proofs.Common.{◌≡◌, ◌≢◌, ℕ, Bool, true, List, map, None, refl, sym, subst, ◌∙◌}
use Rattle.std.proofs.lemmas.Bool.{true≢false}
use Rattle.std.proofs.lemmas.Option.{none-some, same_Some}
use Rattle.ips_outside.specs.Image.{Image}
use Rattle.ips_steps.specs.View.{step_of}
use Rattle.ips_meaning.specs.declared.entry.Entry.{Entry}
use Rattle.ips_state.specs.declared.state.State.{State}
use Rattle.ips_state.specs.State.{Recorded, recorded}
use Rattle.ips_after.specs.Request.{Request}
use Rattle.ips_change.specs.wanted.Named.{is_payload_of}
use Rattle.ips_change.specs.wanted.Wanted.{want_of}
use Rattle.ips_due.specs.Delivered.{creation_due}
use Rattle.ips_due.specs.Due.{IsOverOf}
use Rattle.ips_emit.specs.declared.emitting.Emitted.{Emitted}
use Rattle.ips_image_steps.specs.Answers.{HasSteps}
use Rattle.ips_plan.specs.image_plan.Meaning.{StateMeans}
use Rattle.ips_plan_limits.specs.Limits.{first_excess}
use Rattle.ips_plan.specs.created.Creating.{AreCreationSteps, AreStepsToMake, ComesOfCreation, ComesOfMaking, creation_request}
use Rattle.ips_plan.specs.declared.created.fault.CreateFault.{CreateFault}
use Rattle.ips_plan.specs.declared.created.fault.CreateFault.TheVariants as fault
use Rattle.ips_laws.specs.plan_laws.Alike.{AreLikeSteps, IsSameCreateFault}
use Rattle.ips_laws.proofs.plan_laws.Dues.{over_alike}
use Rattle.ips_next.proofs.OneNext.{moment_one}
use Rattle.ips_laws.proofs.plan_laws.States.{meaning_same}
use Rattle.ips_laws.proofs.plan_laws.Steps.{IsPlain, excess_one, like_steps}
use Rattle.ips_laws.proofs.plan_laws.Wants.{want_bare, want_keyed, want_like}

module _ (s z : State) (same : recorded s ≡ recorded z) (want other : List (List ℕ × Entry)) (means : StateMeans s want) (also : StateMeans z other) (text : List ℕ) (t : Image) (d e : Emitted)
    (h : AreStepsToMake text (recorded s) want t d) (k : AreStepsToMake text (recorded z) other t e) where
  abbrev request : (List ℕ → List ℕ) → Request
  request bytes = creation_request want bytes h.over

  plain : (bytes : List ℕ → List ℕ) → IsPlain (request bytes)
  plain bytes = record { keyed = want_keyed want; bare = want_bare s want means }

  requests : (bytes : List ℕ → List ℕ) → creation_request other bytes k.over ≡ request bytes
  requests bytes =
      let wants : want_of other ≡ want_of want = sym (want_like want other (meaning_same s z same want other means also)) in
      let overs : k.over ≡ h.over = over_alike bytes is_payload_of (creation_due (recorded s)) t k.over h.over (subst (λ (r : Recorded). IsOverOf bytes is_payload_of (creation_due r) t k.over) (sym same) (k.says bytes)) (h.says bytes) in
      λ i. record { old = wants i; new = wants i; bytes = bytes; holds = is_payload_of; over = overs i }

  moved : (bytes : List ℕ → List ℕ) → HasSteps text (request bytes) t e
  moved bytes = subst (λ (r : Request). HasSteps text r t e) (requests bytes) (k.steps bytes)

  making_like : AreLikeSteps t d e
  making_like = like_steps text request t (λ bytes. refl) plain d e h.steps moved

  making_excess : first_excess (map step_of d.steps.items) d.staged.items ≡ first_excess (map step_of e.steps.items) e.staged.items
  making_excess = excess_one text request t (λ bytes. refl) plain d e h.steps moved

module _ (s z : State) (same : recorded s ≡ recorded z) (t : Image) (moment : ℕ) where
  pub creations_like : (d e : Emitted) → AreCreationSteps moment s t d → AreCreationSteps moment z t e → AreLikeSteps t d e
  creations_like d e h k =
      let here = subst (λ (text : List ℕ). AreStepsToMake text (recorded s) h.want t d) (moment_one moment h.text k.text h.is_text k.is_text) h.are in
      making_like s z same h.want k.want h.means k.means k.text t d e here k.are

  module _ (told : Bool) (tell : told ≡ true) where
    cause_one : (text : List ℕ) (want other : List (List ℕ × Entry)) → StateMeans s want → StateMeans z other → (f e : CreateFault) → ComesOfMaking told t text (recorded s) want f → ComesOfMaking told t text (recorded z) other e → f ≢ fault.FolderFault → e ≢ fault.FolderFault → IsSameCreateFault f e
    cause_one text want other means also (fault.Unmovable p) e h k hf ke = absurd (true≢false (sym tell ∙ h))
    cause_one text want other means also f (fault.Unmovable q) h k hf ke = absurd (true≢false (sym tell ∙ k))
    cause_one text want other means also (fault.TooLarge x) (fault.TooLarge y) h k hf ke =
        same_Some x y (sym h.beyond ∙ making_excess s z same want other means also text t h.emitted k.emitted (h.steps tell) (k.steps tell) ∙ k.beyond)
    cause_one text want other means also fault.FolderFault e h k hf ke = absurd (hf refl)
    cause_one text want other means also f fault.FolderFault h k hf ke = absurd (ke refl)

    pub uncreated_one : (f e : CreateFault) → ComesOfCreation told t moment s f → ComesOfCreation told t moment z e → f ≢ fault.FolderFault → e ≢ fault.FolderFault → IsSameCreateFault f e
    uncreated_one f e h k hf ke =
        cause_one k.text h.want k.want h.means k.means f e (subst (λ (text : List ℕ). ComesOfMaking told t text (recorded s) h.want f) (moment_one moment h.text k.text h.is_text k.is_text) h.comes) k.comes hf ke

    steps_or_cause : (text : List ℕ) (want other : List (List ℕ × Entry)) → StateMeans s want → StateMeans z other → (d : Emitted) (f : CreateFault) → AreStepsToMake text (recorded s) want t d → first_excess (map step_of d.steps.items) d.staged.items ≡ None
        → ComesOfMaking told t text (recorded z) other f → f ≡ fault.FolderFault
    steps_or_cause text want other means also d (fault.Unmovable q) h few k = absurd (true≢false (sym tell ∙ k))
    steps_or_cause text want other means also d (fault.TooLarge x) h few k =
        absurd (none-some x (sym few ∙ making_excess s z same want other means also text t d k.emitted h (k.steps tell) ∙ k.beyond))
    steps_or_cause text want other means also d fault.FolderFault h few k = refl

    pub created_or_not : (d : Emitted) (f : CreateFault) → AreCreationSteps moment s t d → first_excess (map step_of d.steps.items) d.staged.items ≡ None → ComesOfCreation told t moment z f → f ≡ fault.FolderFault
    created_or_not d f h few k =
        steps_or_cause k.text h.want k.want h.means k.means d f (subst (λ (text : List ℕ). AreStepsToMake text (recorded s) h.want t d) (moment_one moment h.text k.text h.is_text k.is_text) h.are) few k.comes
