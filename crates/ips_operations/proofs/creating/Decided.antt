-- What is decided of the making of an image, from what each step found.
use Rattle.std.proofs.Common.{◌≡◌, ℕ, Bool, true, List, [], Option, Some, None, map, Result, Ok, Err, refl, sym, ap, subst, ◌∙◌}
use Rattle.std.specs.Prelude.{IfOk}
use Rattle.std.specs.declared.vec.Vec.{Vec}
use Rattle.std.specs.declared.alloc.Global.{Global}
use Rattle.ips_text.specs.Reading.{IfBad}
use Rattle.ips_text.specs.declared.refusal.Or.{Or}
use Rattle.ips_text.specs.declared.refusal.Or.TheVariants.{Bad, OutOfMemory}
use Rattle.ips_outside.specs.Image.{Entry, Image}
use Rattle.ips_outside.specs.Outside.{look_of}
use Rattle.ips_outside.specs.declared.outside.Look.TheVariants.{Absent}
use Rattle.ips_steps.specs.Steps.{Stage, Step, all_laid}
use Rattle.ips_steps.specs.Private.{visible}
use Rattle.ips_steps.specs.View.{step_of}
use Rattle.ips_steps.specs.declared.step.Step as declared
use Rattle.ips_journal.specs.declared.staged.Staged.{Staged}
use Rattle.ips_contents.specs.Contents.{StagedContents}
use Rattle.ips_commit.specs.Staging.{CanStage}
use Rattle.ips_state.specs.Records.{image_path}
use Rattle.ips_state.specs.State.{recorded}
use Rattle.ips_state.specs.declared.state.State.{State}
use Rattle.ips_emit.specs.declared.emitting.Emitted.{Emitted}
use Rattle.ips_plan.specs.created.Creating.{AreCreationSteps, ComesOfCreation}
use Rattle.ips_plan.specs.created.Made.{image_made}
use Rattle.ips_plan.specs.declared.created.fault.CreateFault.{CreateFault}
use Rattle.ips_report.specs.declared.outcome.Outcome.{Outcome}
use Rattle.ips_tell.specs.refusals.Told.{Answer}
use Rattle.ips_run.specs.declared.operation.Change.{Change}
use Rattle.ips_run.specs.declared.operation.Decision.{Decision}
use Rattle.ips_run.specs.declared.operation.Decision.TheVariants as decision
use Rattle.ips_run.specs.declared.operation.DecideFault.{DecideFault}
use Rattle.ips_run.specs.Planned.{IsPlanned}
use Rattle.ips_tell.specs.told.Laying.{IsChangeOfSteps}
use Rattle.ips_plan_limits.specs.Limits.{first_excess}
use Rattle.ips_operations.specs.creating.Creations.{Creation, IsBegun}
use Rattle.ips_operations.specs.creating.Decides.{Decides, Exists, IsUnmade, Made, Unmade, makes_of}
use Rattle.ips_operations.specs.creating.Told.{unmade_told}

-- ---- whether there is an image

pub stands : (e : Option Entry) → (look_of e ≡ Absent → ⊥) → e ≡ None → ⊥
stands e there none = there (ap look_of none)

pub none_there : (e : Option Entry) → look_of e ≡ Absent → e ≡ None
none_there None is = refl
none_there (Some (Entry.Dir m f)) is = cc
none_there (Some (Entry.File m b)) is = cc
none_there (Some (Entry.Link g)) is = cc
none_there (Some Entry.Other) is = cc

-- ---- why it isn't made

-- it is decided so, where it is of everything that is decided
decided_if : (a : Creation) (t : Image) (r : Answer) → ((d : Decision Outcome) → r ≡ Ok d → Decides a t d) → IfOk r (Decides a t)
decided_if a t (Ok d) by = by d refl
decided_if a t (Err e) by = tt

pub unmade_by : (X : Type 0) (a : Creation) (t : Image) (s : State) (told : Bool) (e : Or CreateFault) (r : Answer) → r ≡ unmade_told e → told ≡ true → t.look image_path ≡ None → IsBegun a s
    → IfBad {X = X} {E = CreateFault} (Err e) (ComesOfCreation told t a.moment s) → IfOk r (Decides a t)
unmade_by X a t s told (Bad why) r is tells none begun comes = decided_if a t r (λ d known. Unmade why none (record { state = s; begun = begun; comes = subst (λ (b : Bool). ComesOfCreation b t a.moment s why) tells comes }) (sym is ∙ known))
unmade_by X a t s told OutOfMemory r is tells none begun comes = decided_if a t r (λ d known. absurd (never r d is known))
  where
    never : (s : Answer) (d : Decision Outcome) → s ≡ Err OutOfMemory → s ≡ Ok d → ⊥
    never (Ok x) d bad known = cc
    never (Err x) d bad known = cc

-- ---- the change

module _ (a : Creation) (t : Image) (s : State) (e : Emitted) (c : Change Outcome) (publisher : List ℕ) (is : IsChangeOfSteps publisher e c) (begun : IsBegun a s) where
  pub change_decided : publisher ≡ s.publisher → t.look image_path ≡ None → AreCreationSteps a.moment s t e → first_excess (map step_of e.steps.items) e.staged.items ≡ None → Decides a t (decision.Change c)
  change_decided same none steps within = Made s e c none begun steps within (subst (λ (p : List ℕ). IsChangeOfSteps p e c) same is)

  -- what is promised of the steps
  abbrev pub MakesIt : Type 0
  MakesIt = (repository : Image) (publisher : List ℕ) (contents : Stage) → StagedContents true repository publisher t e.staged.items contents
      → visible (all_laid contents (map step_of e.steps.items) t) ≡ image_made (recorded s) (visible t)

  pub change_planned : (tells : Bool) (repository : Image) → CanStage (map step_of e.steps.items) e.staged.items t → MakesIt → IsPlanned (makes_of a) tells repository t c
  change_planned tells repository can makes = record {
    can = subst (λ (v : Vec declared.Step Global). CanStage (map step_of v.items) c.staged.items t) (sym is.steps) (subst (λ (v : Vec Staged Global). CanStage (map step_of e.steps.items) v.items t) (sym is.staged) can);
    is_meant = λ contents staged told. record {
      state = s;
      begun = begun;
      is = subst (λ (v : Vec declared.Step Global). visible (all_laid contents (map step_of v.items) t) ≡ image_made (recorded s) (visible t)) (sym is.steps)
          (makes repository c.publisher contents (subst (λ (v : Vec Staged Global). StagedContents true repository c.publisher t v.items contents) is.staged
          (subst (λ (b : Bool). StagedContents b repository c.publisher t c.staged.items contents) told staged)));
    };
  }
