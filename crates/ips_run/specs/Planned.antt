-- What an operation decides on.
use Rattle.std.specs.Prelude.{Bool, IsTrue, IsFalse, map}
use Rattle.ips_outside.specs.Image.{Image}
use Rattle.ips_steps.specs.Steps.{Stage, all_laid}
use Rattle.ips_steps.specs.Private.{visible}
use Rattle.ips_steps.specs.Journal.{IsJournal}
use Rattle.ips_steps.specs.View.{step_of}
use Rattle.ips_contents.specs.Contents.{StagedContents, AreSeen}
use Rattle.ips_commit.specs.Staging.{CanStage}
use Rattle.ips_history.specs.Directories.{shows}
use Rattle.ips_history.specs.declared.effect.Effect.{Effect}
use Rattle.ips_run.specs.declared.operation.Change.{Change}
use Rattle.ips_run.specs.declared.operation.Decision.{Decision}
use Rattle.ips_run.specs.declared.operation.Decision.TheVariants as decision

-- a fact of the change, where one was decided on
abbrev pub IfChange : {T : Type 0} → (Change T → Type 0) → Decision T → Type 0
IfChange P (decision.Change c) = P c
IfChange P decision.Nothing = Unit {0}
IfChange P (decision.Shown told) = Unit {0}
IfChange P (decision.Refused told) = Unit {0}

-- an operation that shows decides on what is to be shown, and no other does; each may refuse
abbrev pub IsOfEffect : {T : Type 0} → Effect → Decision T → Type 0
IsOfEffect effect (decision.Change c) = IsFalse (shows effect)
IsOfEffect effect decision.Nothing = IsFalse (shows effect)
IsOfEffect effect (decision.Shown told) = IsTrue (shows effect)
IsOfEffect effect (decision.Refused told) = Unit {0}

-- A journal can list the steps, and nothing is put from the updater's own names.
pub record CanBeListed {T : Type 0} (c : Change T) : Type 0 where
  pub lists : IsJournal (map step_of c.steps.items)
  pub seen : AreSeen c.staged.items

-- The change can be staged on an image; and laid with what is to be staged, it is seen as the operation means.
pub record IsPlanned {T : Type 0} (means : Bool → Image → Image → Image → Type 0) (tells : Bool) (repository : Image) (t : Image) (c : Change T) : Type 0 where
  pub can : CanStage (map step_of c.steps.items) c.staged.items t
  pub is_meant : (contents : Stage) → StagedContents tells repository c.publisher t c.staged.items contents
      → means tells repository (visible t) (visible (all_laid contents (map step_of c.steps.items) t))
