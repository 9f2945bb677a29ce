-- The steps of a request can be staged, and what is then seen is the image after it.
use Rattle.std.proofs.Common.{◌≡◌, ◌<◌, ℕ, true, List, map, length, None, is_some, sym, ◌∙◌, subst}
use Rattle.std.proofs.lemmas.List.{length-map}
use Rattle.ips_outside.specs.Image.{Image, IsImage}
use Rattle.ips_steps.specs.Private.{gate_name, visible}
use Rattle.ips_steps.specs.Steps.{Stage, Step, all_laid, possible}
use Rattle.ips_steps.specs.View.{step_of}
use Rattle.ips_contents.specs.Contents.{StagedContents}
use Rattle.ips_commit.specs.Staging.{CanStage}
use Rattle.ips_after.specs.Planned.{IsNameable}
use Rattle.ips_after.specs.Planned.{Staged as AreContents}
use Rattle.ips_after.specs.Request.{IsRequest, Request}
use Rattle.ips_after.specs.Salvage.{IsImageAfter}
use Rattle.ips_change.specs.Told.{naming}
use Rattle.ips_emit.specs.declared.emitting.Emitted.{Emitted}
use Rattle.ips_emit.specs.Emitted.{staged_bytes}
use Rattle.ips_image_steps.proofs.plan_steps.Seen.{means_plan, possible_plan, sound_plan}
use Rattle.ips_image_steps.specs.Answers.{CanBeListed, HasSteps}
use Rattle.ips_image_steps.specs.staged_plans.Payloads.{payload_bytes}
use Rattle.ips_image_steps.proofs.staged_plans.Bare.{possible_alike}
use Rattle.ips_image_steps.proofs.staged_plans.Contents.{alike_with, contents_are, contents_with, stage_with}

module _ (moment : List ℕ) (r : Request) (h : Image) (e : Emitted) (has : HasSteps moment r h e) (good : IsRequest r) (formed : IsImage h) where
  abbrev steps : List Step
  steps = map step_of e.steps.items

  abbrev contents : List (List ℕ)
  contents = map (staged_bytes r.bytes h) e.staged.items

  named : IsRequest (naming r)
  named = record { old_want = good.old_want; new_want = good.new_want; over_fits = good.over_fits; hards = good.hards }

  can : (other : Stage) → ((n : ℕ) → n < length e.staged.items → is_some (other n) ≡ true) → possible other steps h ≡ true
  can other all =
      sym (possible_alike (stage_with contents other) other (alike_with contents other (λ n less. all n (subst (λ (k : ℕ). n < k) (length-map e.staged.items (staged_bytes r.bytes h)) less))) steps h)
      ∙ possible_plan moment (naming r) h steps contents has.plan named formed has.own (stage_with contents other) (contents_with contents other)

  pub stages : CanBeListed e → h.look gate_name ≡ None → CanStage steps e.staged.items h
  stages lists shut = record {
    is_sound = sound_plan moment (naming r) h steps contents has.plan named formed has.own;
    counted = lists.counted;
    standing = has.standing;
    can = can;
    records = has.own.stands;
    shut = shut;
  }

  pub image_after : (publisher : List ℕ) (repository : Image) (stage : Stage) → IsNameable r h → r.bytes ≡ payload_bytes publisher repository → StagedContents true repository publisher h e.staged.items stage
      → IsImageAfter moment (naming r) (visible h) (visible (all_laid stage steps h))
  image_after publisher repository stage may same are =
      means_plan moment (naming r) h steps contents has.plan named formed has.own (record { stands = may.stands; wanted = may.wanted; news = may.news; olds = may.olds; overs = may.overs }) stage
      (subst (λ (bytes : List ℕ → List ℕ). AreContents stage 0 (map (staged_bytes bytes h) e.staged.items)) (sym same) (contents_are publisher repository h e.staged.items stage are))
