-- What is answered for a request over an image.
use Rattle.std.specs.Prelude.{◌≡◌, ℕ, List, length, map, Option, Some, None, Result, Ok, Err}
use Rattle.ips_text.specs.declared.refusal.Or.{Or}
use Rattle.ips_text.specs.declared.refusal.Or.TheVariants.{Bad, OutOfMemory}
use Rattle.ips_text.specs.Kept.{Kept}
use Rattle.ips_outside.specs.Image.{Image}
use Rattle.ips_steps.specs.Journal.{IsJournal}
use Rattle.ips_steps.specs.View.{step_of}
use Rattle.ips_journal.specs.Reading.{puts_in}
use Rattle.ips_after.specs.Request.{Request}
use Rattle.ips_after.specs.Salvage.{Aside, IsAside, IsOwn, IsRoot, IsUnmovable}
use Rattle.ips_change.specs.Told.{naming}
use Rattle.ips_contents.specs.Contents.{AreSeen, AreStanding}
use Rattle.ips_emit.specs.declared.emitting.Emitted.{Emitted}
use Rattle.ips_emit.specs.Emitted.{provenance_of, staged_bytes}
use Rattle.ips_image_steps.specs.plan_steps.Plan.{IsPlan}
use Rattle.ips_image_steps.specs.Sources.{HasSources}
use Rattle.ips_image_steps.specs.declared.fault.StepsFault.{StepsFault}
use Rattle.ips_image_steps.specs.declared.fault.StepsFault.TheVariants.{FolderFault, Unmovable}

-- A journal can list the steps, there is one content for each that puts a file, and none is taken from the updater's own names.
pub record CanBeListed (e : Emitted) : Type 0 where
  pub lists : IsJournal (map step_of e.steps.items)
  pub counted : puts_in (map step_of e.steps.items) ≡ length e.staged.items
  pub seen : AreSeen e.staged.items

-- The steps are those of the request over the image at that moment, with what is saved apart from what account files and records speak of; what is staged has
-- the contents of the plan and comes from where it should, and what of it is copied stands as a file.
pub record HasSteps (moment : List ℕ) (r : Request) (t : Image) (e : Emitted) : Type 0 where
  pub plan : IsPlan moment (naming r) t (map step_of e.steps.items) (map (staged_bytes r.bytes t) e.staged.items)
  pub own : IsOwn (naming r) t plan.aside
  pub standing : AreStanding t e.staged.items
  pub sources : HasSources r t plan.aside plan.asides (map provenance_of e.staged.items)

-- The path is the first at which the request can't be carried out over the image, with what is salvaged at that moment.
pub record IsHindered (moment : List ℕ) (r : Request) (t : Image) (p : List ℕ) : Type 0 where
  pub aside : Aside
  pub is_root : IsRoot t moment aside.root
  pub is_aside : IsAside (naming r) t aside
  pub first : IsUnmovable (naming r) t aside p

-- The fact holds of the path at which the request can't be carried out, where one is answered.
abbrev pub IfUnmovable : Result Emitted (Or StepsFault) → (List ℕ → Type 0) → Type 0
IfUnmovable (Ok e) P = Unit {0}
IfUnmovable (Err (Bad (Unmovable p))) P = P p.bytes
IfUnmovable (Err (Bad FolderFault)) P = Unit {0}
IfUnmovable (Err OutOfMemory) P = Unit {0}

-- The steps are those of the request, or the path is the first at which it can't be carried out.
abbrev pub IsAnswer : List ℕ → Request → Image → Option Kept → Emitted → Type 0
IsAnswer moment r t (Some p) e = IsHindered moment r t p.bytes
IsAnswer moment r t None e = HasSteps moment r t e
