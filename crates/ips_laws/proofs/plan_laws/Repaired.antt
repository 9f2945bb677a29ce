-- The repaired image is one, and so are the steps of a repair and why there are none.
use Rattle.std.proofs.Common.{◌≡◌, ◌≢◌, ℕ, Bool, true, ◌||◌, List, map, None, refl, sym, ap, subst, ◌∙◌}
use Rattle.std.proofs.lemmas.Option.{none-some, same_Some}
use Rattle.ips_text.specs.Ancestry.{covers}
use Rattle.ips_outside.specs.Image.{Image}
use Rattle.ips_steps.specs.View.{step_of}
use Rattle.ips_meaning.specs.declared.entry.Entry.{Entry}
use Rattle.ips_state.specs.declared.state.State.{State}
use Rattle.ips_state.specs.State.{Recorded, recorded}
use Rattle.ips_after.specs.Repaired.{IsRepaired, Repair, SparedBelow, image_sparing, request_of}
use Rattle.ips_after.specs.Request.{Over, Request}
use Rattle.ips_after.proofs.Changed.{both_ways}
use Rattle.ips_after.proofs.Names.{root_one}
use Rattle.ips_change.specs.wanted.Named.{is_payload_of}
use Rattle.ips_change.specs.wanted.Wanted.{want_of}
use Rattle.ips_due.specs.Due.{IsOverOf}
use Rattle.ips_request_due.specs.repairs.Repairing.{repair_between, repair_due}
use Rattle.ips_image_steps.specs.staged_plans.Payloads.{payload_bytes}
use Rattle.ips_emit.specs.declared.emitting.Emitted.{Emitted}
use Rattle.ips_image_steps.specs.Answers.{HasSteps, IsHindered}
use Rattle.ips_plan.specs.image_plan.Meaning.{StateMeans}
use Rattle.ips_plan_limits.specs.Limits.{first_excess}
use Rattle.ips_repair.specs.Meant.{IsRepairedImage}
use Rattle.ips_repair.specs.Repairing.{AreRepairSteps, AreStepsToRepair, ComesOfRepair, ComesOfRepairAt, SaysHistory, repair_request}
use Rattle.ips_repair.specs.declared.fault.RepairFault.{RepairFault}
use Rattle.ips_repair.specs.declared.fault.RepairFault.TheVariants as fault
use Rattle.ips_laws.specs.plan_laws.Alike.{AreLikeSteps, IsSameRepairFault}
use Rattle.ips_laws.proofs.plan_laws.Dues.{over_alike}
use Rattle.ips_next.proofs.OneNext.{moment_one}
use Rattle.ips_laws.proofs.plan_laws.States.{meaning_same, publisher_same}
use Rattle.ips_laws.proofs.plan_laws.Steps.{IsPlain, excess_one, hindered_one, like_steps, no_bytes, steps_or_hindered}
use Rattle.ips_laws.proofs.plan_laws.Wants.{want_bare, want_keyed, want_like}

-- ---- the image

repaired_one : (text : List ℕ) (f : Repair) (t u v : Image) → IsRepaired text f t u → IsRepaired text f t v → u ≡ v
repaired_one text f t u v h k = h.means ∙ (λ i. image_sparing f t (root i) (λ q. ways q i)) ∙ sym k.means
  where
    root : h.root ≡ k.root
    root = root_one t text h.root k.root h.is_root k.is_root

    ways : (q : List ℕ) → h.ways q ≡ k.ways q
    ways q = both_ways
        (λ w. let x = h.ways_only q w in k.ways_all q (subst (λ (y : List ℕ). SparedBelow f t y q) root x.0) x.1 (ap (λ (y : List ℕ). covers q y || covers y q) (sym root) ∙ x.2))
        (λ w. let x = k.ways_only q w in h.ways_all q (subst (λ (y : List ℕ). SparedBelow f t y q) (sym root) x.0) x.1 (ap (λ (y : List ℕ). covers q y || covers y q) root ∙ x.2))

pub repaired_image_one : (moment : ℕ) (new next : State) (repository t a b : Image) → recorded new ≡ recorded next → IsRepairedImage moment new repository t a → IsRepairedImage moment next repository t b → a ≡ b
repaired_image_one moment new next repository t a b same h k = repaired_one h.text (repair_between h.want (payload_bytes new.publisher repository) is_payload_of h.over) t a b h.image theirs
  where
    publishers : next.publisher ≡ new.publisher
    publishers = sym (publisher_same new next same)

    wants : want_of k.want ≡ want_of h.want
    wants = sym (want_like h.want k.want (meaning_same new next same h.want k.want h.means k.means))

    history : next.history.items ≡ new.history.items
    history = sym (ap (λ (r : Recorded). r.history) same)

    their_over : IsOverOf (payload_bytes new.publisher repository) is_payload_of (repair_due new.history.items) t k.over
    their_over = subst (λ (l : List (List ℕ)). IsOverOf (payload_bytes new.publisher repository) is_payload_of (repair_due l) t k.over) history
        (subst (λ (p : List ℕ). IsOverOf (payload_bytes p repository) is_payload_of (repair_due next.history.items) t k.over) publishers k.is_over)

    over : k.over ≡ h.over
    over = over_alike (payload_bytes new.publisher repository) is_payload_of (repair_due new.history.items) t k.over h.over their_over h.is_over

    repair : repair_between k.want (payload_bytes next.publisher repository) is_payload_of k.over ≡ repair_between h.want (payload_bytes new.publisher repository) is_payload_of h.over
    repair = λ i. record { want = wants i; bytes = payload_bytes (publishers i) repository; holds = is_payload_of; over = over i }

    theirs : IsRepaired h.text (repair_between h.want (payload_bytes new.publisher repository) is_payload_of h.over) t b
    theirs = subst (λ (text : List ℕ). IsRepaired text (repair_between h.want (payload_bytes new.publisher repository) is_payload_of h.over) t b) (moment_one moment k.text h.text k.is_text h.is_text)
        (subst (λ (f : Repair). IsRepaired k.text f t b) repair k.image)

-- ---- the steps

module _ (s z : State) (same : recorded s ≡ recorded z) (want other : List (List ℕ × Entry)) (means : StateMeans s want) (also : StateMeans z other) (text : List ℕ) (history : List (List ℕ)) (t : Image)
    (over more : Over) (says : SaysHistory history t over) (says_more : SaysHistory history t more) where
  abbrev request : (List ℕ → List ℕ) → Request
  request bytes = repair_request want bytes over t

  plain : (bytes : List ℕ → List ℕ) → IsPlain (request bytes)
  plain bytes = record { keyed = want_keyed want; bare = want_bare s want means }

  requests : (bytes : List ℕ → List ℕ) → repair_request other bytes more t ≡ request bytes
  requests bytes =
      let wants : want_of other ≡ want_of want = sym (want_like want other (meaning_same s z same want other means also)) in
      let overs : more ≡ over = over_alike bytes is_payload_of (repair_due history) t more over (says_more bytes) (says bytes) in
      λ i. request_of (record { want = wants i; bytes = bytes; holds = is_payload_of; over = overs i }) t

  moved : (e : Emitted) → ((bytes : List ℕ → List ℕ) → HasSteps text (repair_request other bytes more t) t e) → (bytes : List ℕ → List ℕ) → HasSteps text (request bytes) t e
  moved e k bytes = subst (λ (r : Request). HasSteps text r t e) (requests bytes) (k bytes)

  hinders : (p : List ℕ) → ((bytes : List ℕ → List ℕ) → IsHindered text (repair_request other bytes more t) t p) → IsHindered text (request no_bytes) t p
  hinders p k = subst (λ (r : Request). IsHindered text r t p) (requests no_bytes) (k no_bytes)

  like_of : (d e : Emitted) → ((bytes : List ℕ → List ℕ) → HasSteps text (request bytes) t d) → ((bytes : List ℕ → List ℕ) → HasSteps text (repair_request other bytes more t) t e) → AreLikeSteps t d e
  like_of d e h k = like_steps text request t (λ bytes. refl) plain d e h (moved e k)

  excess_of : (d e : Emitted) → ((bytes : List ℕ → List ℕ) → HasSteps text (request bytes) t d) → ((bytes : List ℕ → List ℕ) → HasSteps text (repair_request other bytes more t) t e)
      → first_excess (map step_of d.steps.items) d.staged.items ≡ first_excess (map step_of e.steps.items) e.staged.items
  excess_of d e h k = excess_one text request t (λ bytes. refl) plain d e h (moved e k)

  path_of : (p q : List ℕ) → IsHindered text (request no_bytes) t p → ((bytes : List ℕ → List ℕ) → IsHindered text (repair_request other bytes more t) t q) → p ≡ q
  path_of p q h k = hindered_one text (request no_bytes) t (plain no_bytes) p q h (hinders q k)

  apart_of : (d : Emitted) (q : List ℕ) → HasSteps text (request no_bytes) t d → ((bytes : List ℕ → List ℕ) → IsHindered text (repair_request other bytes more t) t q) → ⊥
  apart_of d q h k = steps_or_hindered text (request no_bytes) t (plain no_bytes) d q h (hinders q k)

module _ (s z : State) (same : recorded s ≡ recorded z) (want other : List (List ℕ × Entry)) (means : StateMeans s want) (also : StateMeans z other) (history : List (List ℕ)) (t : Image) where
  like_at : (text : List ℕ) (d e : Emitted) → AreStepsToRepair text history want t d → AreStepsToRepair text history other t e → AreLikeSteps t d e
  like_at text d e h k = like_of s z same want other means also text history t h.over k.over h.says k.says d e h.steps k.steps

  pub repairs_like : (moment : ℕ) (d e : Emitted) → AreRepairSteps moment history want t d → AreRepairSteps moment history other t e → AreLikeSteps t d e
  repairs_like moment d e h k = like_at k.text d e (subst (λ (text : List ℕ). AreStepsToRepair text history want t d) (moment_one moment h.text k.text h.is_text k.is_text) h.are) k.are

  -- ---- causes

  module _ (told : Bool) (tell : told ≡ true) (text : List ℕ) where
    cause_one : (f e : RepairFault) → ComesOfRepair told t text history want f → ComesOfRepair told t text history other e → f ≢ fault.FolderFault → e ≢ fault.FolderFault → IsSameRepairFault f e
    cause_one (fault.Unmovable p) (fault.Unmovable q) h k hf ke =
        let x = h tell in
        let y = k tell in
        path_of s z same want other means also text history t x.over y.over x.says y.says p.bytes q.bytes (x.hindered no_bytes) y.hindered
    cause_one (fault.Unmovable p) (fault.TooLarge d) h k hf ke =
        let x = h tell in
        let y = k.steps tell in
        absurd (apart_of z s (sym same) other want also means text history t y.over x.over y.says x.says k.emitted p.bytes (y.steps no_bytes) x.hindered)
    cause_one (fault.TooLarge d) (fault.Unmovable q) h k hf ke =
        let x = h.steps tell in
        let y = k tell in
        absurd (apart_of s z same want other means also text history t x.over y.over x.says y.says h.emitted q.bytes (x.steps no_bytes) y.hindered)
    cause_one (fault.TooLarge d) (fault.TooLarge e) h k hf ke =
        let x = h.steps tell in
        let y = k.steps tell in
        same_Some d e (sym h.beyond ∙ excess_of s z same want other means also text history t x.over y.over x.says y.says h.emitted k.emitted x.steps y.steps ∙ k.beyond)
    cause_one fault.FolderFault e h k hf ke = absurd (hf refl)
    cause_one f fault.FolderFault h k hf ke = absurd (ke refl)

    steps_or_cause : (d : Emitted) (f : RepairFault) → AreStepsToRepair text history want t d → first_excess (map step_of d.steps.items) d.staged.items ≡ None → ComesOfRepair told t text history other f → f ≡ fault.FolderFault
    steps_or_cause d (fault.Unmovable q) h few k = let y = k tell in absurd (apart_of s z same want other means also text history t h.over y.over h.says y.says d q.bytes (h.steps no_bytes) y.hindered)
    steps_or_cause d (fault.TooLarge e) h few k =
        let y = k.steps tell in
        absurd (none-some e (sym few ∙ excess_of s z same want other means also text history t h.over y.over h.says y.says d k.emitted h.steps y.steps ∙ k.beyond))
    steps_or_cause d fault.FolderFault h few k = refl

  pub unrepaired_one : (told : Bool) → told ≡ true → (moment : ℕ) (f e : RepairFault) → ComesOfRepairAt told t moment history want f → ComesOfRepairAt told t moment history other e → f ≢ fault.FolderFault → e ≢ fault.FolderFault → IsSameRepairFault f e
  unrepaired_one told tell moment f e h k hf ke = cause_one told tell k.text f e (subst (λ (text : List ℕ). ComesOfRepair told t text history want f) (moment_one moment h.text k.text h.is_text k.is_text) h.comes) k.comes hf ke

  pub repaired_or_not : (told : Bool) → told ≡ true → (moment : ℕ) (d : Emitted) (f : RepairFault) → AreRepairSteps moment history want t d → first_excess (map step_of d.steps.items) d.staged.items ≡ None → ComesOfRepairAt told t moment history other f → f ≡ fault.FolderFault
  repaired_or_not told tell moment d f h few k = steps_or_cause told tell k.text d f (subst (λ (text : List ℕ). AreStepsToRepair text history want t d) (moment_one moment h.text k.text h.is_text k.is_text) h.are) few k.comes
