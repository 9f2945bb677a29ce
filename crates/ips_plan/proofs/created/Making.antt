-- The request that makes an image is lawful, saves nothing, and leaves the image that is made.
use Rattle.std.proofs.Common.{◌≡◌, inr, ℕ, Bool, true, false, List, [], map, Option, None, is_some, refl, sym, ◌∙◌, ap, subst}
use Rattle.std.specs.Prelude.{IsTrue, codes}
use Rattle.std.proofs.lemmas.Bool.{and_parts, not-true}
use Rattle.ips_text.specs.Ancestry.{covers, is_below}
use Rattle.ips_outside.specs.Image.{Entry as ImageEntry, Image, IsImage, is_dir}
use Rattle.ips_steps.specs.Private.{gate_name, records_name, visible}
use Rattle.ips_steps.specs.Steps.{Stage, all_laid}
use Rattle.ips_steps.specs.View.{step_of}
use Rattle.ips_steps.proofs.Lists.{clash}
use Rattle.ips_contents.specs.Contents.{StagedContents}
use Rattle.ips_commit.specs.Staging.{CanStage}
use Rattle.ips_state.specs.declared.state.State.{State}
use Rattle.ips_state.specs.State.{Recorded, installed, recorded}
use Rattle.ips_meaning.specs.declared.entry.Entry.{Entry}
use Rattle.ips_after.specs.After.{over_or}
use Rattle.ips_after.specs.Change.{Changes, changed}
use Rattle.ips_after.specs.Change.{Kept as Unchanged}
use Rattle.ips_after.specs.Planned.{IsNameable}
use Rattle.ips_after.specs.Request.{IsRequest, Over, Request}
use Rattle.ips_after.specs.Salvage.{is_unmovable}
use Rattle.ips_after.proofs.Seen.{visible_formed}
use Rattle.ips_after.proofs.Unseen.{nameable_seen}
use Rattle.ips_change.specs.wanted.Named.{is_payload_of}
use Rattle.ips_change.specs.wanted.Wanted.{want_of}
use Rattle.ips_due.specs.Asked.{request_between}
use Rattle.ips_due.specs.Delivered.{creation_due}
use Rattle.ips_due.specs.Due.{Due, FitsAccounts, IsOverOf, LeavesOwn, MeansSame, is_due, said}
use Rattle.ips_due.proofs.Asking as asking
use Rattle.ips_due.proofs.RequestDue.{creation_is_due}
use Rattle.ips_due.proofs.Same.{over_same}
use Rattle.ips_emit.specs.declared.emitting.Emitted.{Emitted}
use Rattle.ips_image_steps.specs.Asked.{SavesNothing, WantsTheSame}
use Rattle.ips_image_steps.specs.Answers.{CanBeListed, HasSteps, IsHindered}
use Rattle.ips_image_steps.proofs.Unsaved.{saves_nothing}
use Rattle.ips_plan.specs.image_plan.Meaning.{StateMeans}
use Rattle.ips_plan.specs.image_plan.Steps.{AreStepsBetween, HasOver, IsHinderedBetween, IsSaidBetween, said_between}
use Rattle.ips_plan.specs.declared.image_plan.between.Between.{Between}
use Rattle.ips_image_steps.specs.staged_plans.Payloads.{payload_bytes}
use Rattle.ips_image_steps.proofs.staged_plans.Seen.{said_seen}
use Rattle.ips_image_steps.proofs.staged_plans.Staging.{image_after, stages}
use Rattle.ips_plan.specs.created.Creating.{AreStepsToMake, ComesOfMaking, IsBeyond, SaysFirst, creation_request}
use Rattle.ips_plan.specs.declared.created.fault.CreateFault.{CreateFault}
use Rattle.ips_plan.specs.declared.created.fault.CreateFault.TheVariants as fault
use Rattle.ips_plan.specs.created.Made.{IsBlank, image_made, no_payloads}
use Rattle.ips_plan.proofs.created.Bare.{image_is, movable}
use Rattle.ips_plan.proofs.created.First.{IsChild, above_child, child_below, due_child, said_child, same_said}
use Rattle.ips_plan.proofs.created.Nothing.{plain_wanted}

legacy_off : covers (codes "var/sadm/pkg") records_name ≡ false
unfolding records_name
legacy_off = refl

module _ (new : State) (blank : IsBlank new) (want : List (List ℕ × Entry)) (means : StateMeans new want) where
  none : (recorded new).installed ≡ []
  none = ap (map installed) blank.none_installed

  -- nothing is due among the records of legacy packages
  no_legacy : (q : List ℕ) → is_below (codes "var/sadm/pkg") q ≡ true → is_due (creation_due (recorded new)) q ≡ true → ⊥
  no_legacy q below there =
      let parts = and_parts (covers (codes "var/sadm/pkg") q) _ below in
      clash (covers (codes "var/sadm/pkg") records_name) (above_child (codes "var/sadm/pkg") q (due_child (recorded new) none q there) parts.0 (not-true _ parts.1)) legacy_off

  module _ (t : Image) (over : Over) (says : SaysFirst (recorded new) t over) (bytes : List ℕ → List ℕ) where
    abbrev pub r : Request
    r = creation_request want bytes over

    pub children : (q : List ℕ) → is_some (over.at q) ≡ true → IsChild q
    children q h = said_child (recorded new) none bytes t q (ap (λ (o : Option (Option ImageEntry)). is_some o) (sym ((says bytes).at q)) ∙ h)

    pub same : WantsTheSame r
    same = record {
      was = λ q. refl;
      plain = plain_wanted new.settings new.mediators.items new.installed.items want blank.none_installed means.mean;
      inside = λ q h. child_below q (children q h);
    }

    fits : FitsAccounts (creation_due (recorded new)) (want_of want)
    fits = record { files = λ q a w. cc; above = λ p q a below w. cc }

    left : LeavesOwn (creation_due (recorded new)) (want_of want)
    left = asking.leaves new.settings new.settings new.mediators.items new.mediators.items new.installed.items new.installed.items want want means means bytes is_payload_of (creation_due (recorded new)) t over
        (creation_is_due (recorded new)) (says bytes) (λ q below there. absurd (no_legacy q below there))

    pub good : IsRequest r
    good = asking.is_asked new.settings new.settings new.mediators.items new.mediators.items new.installed.items new.installed.items want want means means bytes is_payload_of (creation_due (recorded new)) t over
        (creation_is_due (recorded new)) (says bytes) fits left

    pub names : is_dir (t.look records_name) ≡ true → IsNameable r t
    names stands = asking.is_nameable new.settings new.settings new.mediators.items new.mediators.items new.installed.items new.installed.items want want means means bytes is_payload_of (creation_due (recorded new)) t over
        (creation_is_due (recorded new)) (says bytes) stands

  -- what records say, from one such for any bytes of payloads
  pub says_from : (t : Image) (due : Due) → MeansSame due (creation_due (recorded new)) → (has : HasOver due t) → SaysFirst (recorded new) t (has no_payloads).0
  says_from t due alike has bytes =
      let o = over_same due (creation_due (recorded new)) alike no_payloads is_payload_of t (has no_payloads).0 (has no_payloads).1 in
      record { at = λ q. o.at q ∙ same_said (recorded new) no_payloads bytes t q; accounts = o.accounts; keyed = o.keyed; closed = o.closed; only = o.only; by_bytes = o.by_bytes }

  module _ (t : Image) (formed : IsImage t) (stands : is_dir (t.look records_name) ≡ true) (over : Over) (says : SaysFirst (recorded new) t over) where
    module _ (due : Due) (alike : MeansSame due (creation_due (recorded new))) (bytes : List ℕ → List ℕ) where
      other_way : MeansSame (creation_due (recorded new)) due
      other_way = record { accounts = λ q. sym (alike.accounts q); records = λ q. sym (alike.records q); renewed = λ q. sym (alike.renewed q); folders = λ q. sym (alike.folders q); gone = λ q. sym (alike.gone q) }

      pub said_for : IsOverOf bytes is_payload_of due t over
      said_for = over_same (creation_due (recorded new)) due other_way bytes is_payload_of t over (says bytes)

      pub saves : SavesNothing (r t over says bytes) t
      saves = saves_nothing (r t over says bytes) t formed stands (same t over says bytes)

    -- it can be carried out at each path
    pub unhindered : (text : List ℕ) (p : List ℕ) → IsHindered text (r t over says no_payloads) t p → ⊥
    unhindered text p h =
        let r' = r t over says no_payloads in
        clash (is_unmovable r' t h.aside p) h.first.there (movable r' t formed stands (same t over says no_payloads) (children t over says no_payloads) h.aside h.is_aside.is_emptied p)

module _ (new : State) (blank : IsBlank new) (want : List (List ℕ × Entry)) (means : StateMeans new want) (t : Image) (formed : IsImage t) (stands : is_dir (t.look records_name) ≡ true) (due : Due) (alike : MeansSame due (creation_due (recorded new))) where
  module _ (has : HasOver due t) where
    abbrev over : Over
    over = (has no_payloads).0

    says : SaysFirst (recorded new) t over
    says = says_from new blank want means t due alike has

    -- the request between these states is that which makes an image
    said_between_is : (b : Between) → b.was.now ≡ want → b.is.now ≡ want → (bytes : List ℕ → List ℕ) → said_between b bytes over ≡ creation_request want bytes over
    said_between_is b was is bytes = λ i. request_between (was i) (is i) bytes is_payload_of over

    is_said : (b : Between) → b.was.now ≡ want → b.is.now ≡ want → (bytes : List ℕ → List ℕ) → IsSaidBetween b due t bytes over
    is_said b was is bytes =
        let one = sym (said_between_is b was is bytes) in
        record {
          is_over = said_for new blank want means t formed stands over says due alike bytes;
          good = subst IsRequest one (good new blank want means t over says bytes);
          stands = stands;
          leaves = inr (subst (λ (r : Request). SavesNothing r t) one (saves new blank want means t formed stands over says due alike bytes));
        }

  pub steps_made : (text : List ℕ) (b : Between) (e : Emitted) → b.was.now ≡ want → b.is.now ≡ want → HasOver due t → AreStepsBetween text b due t e → AreStepsToMake text (recorded new) want t e
  steps_made text b e was is has given = record {
    over = over has;
    says = says has;
    steps = λ bytes. subst (λ (r : Request). HasSteps text r t e) (said_between_is has b was is bytes) (given bytes (over has) (is_said has b was is bytes));
  }

  pub never_hindered : (text : List ℕ) (b : Between) (p : List ℕ) → b.was.now ≡ want → b.is.now ≡ want → HasOver due t → IsHinderedBetween text b due t p → ⊥
  never_hindered text b p was is has given =
      unhindered new blank want means t formed stands (over has) (says has) text p (subst (λ (r : Request). IsHindered text r t p) (said_between_is has b was is no_payloads) (given no_payloads (over has) (is_said has b was is no_payloads)))

-- what of the steps is beyond its limit comes of making the image
pub beyond_comes : (told : Bool) (t : Image) (text : List ℕ) (new : Recorded) (want : List (List ℕ × Entry)) (e : Emitted) → CanBeListed e → (IsTrue told → AreStepsToMake text new want t e) → (why : CreateFault) → IsBeyond e why → ComesOfMaking told t text new want why
beyond_comes told t text new want e lists steps (fault.TooLarge excess) is = record { emitted = e; lists = lists; steps = steps; beyond = is }
beyond_comes told t text new want e lists steps (fault.Unmovable path) is = absurd is
beyond_comes told t text new want e lists steps fault.FolderFault is = absurd is

module _ (new : State) (blank : IsBlank new) (want : List (List ℕ × Entry)) (means : StateMeans new want) (h : Image) (formed : IsImage h) (stands : is_dir (h.look records_name) ≡ true) where
  -- what is then seen is the image that is made
  pub image_seen : (text : List ℕ) (e : Emitted) → AreStepsToMake text (recorded new) want h e → (repository : Image) (publisher : List ℕ) (stage : Stage) → StagedContents true repository publisher h e.staged.items stage
      → visible (all_laid stage (map step_of e.steps.items) h) ≡ image_made (recorded new) (visible h)
  image_seen text e are repository publisher stage given =
      let bytes = payload_bytes publisher repository in
      let over = are.over in
      let req = creation_request want bytes over in
      let may = names new blank want means h over are.says bytes stands in
      let after = image_after text req h e (are.steps bytes) (good new blank want means h over are.says bytes) formed publisher repository stage may refl given in
      after.means
      ∙ image_is req (visible h) (visible_formed h formed) (nameable_seen req h may).stands (same new blank want means h over are.says bytes) (children new blank want means h over are.says bytes) after.aside after.is_aside
      ∙ ap (λ (c : Changes). changed c [] (visible h)) (λ i. λ q. ap (λ (o : Option (Option ImageEntry)). over_or o Unchanged) (as_made q) i)
    where
      as_made : (q : List ℕ) → are.over.at q ≡ said no_payloads is_payload_of (creation_due (recorded new)) (visible h) q
      as_made q = (are.says no_payloads).at q ∙ sym (said_seen no_payloads is_payload_of (creation_due (recorded new)) h (creation_is_due (recorded new)) q)

  -- the steps can be staged
  pub can_stage : (text : List ℕ) (e : Emitted) → AreStepsToMake text (recorded new) want h e → CanBeListed e → h.look gate_name ≡ None → CanStage (map step_of e.steps.items) e.staged.items h
  can_stage text e are lists shut = stages text (creation_request want no_payloads are.over) h e (are.steps no_payloads) (good new blank want means h are.over are.says no_payloads) formed lists shut
