-- That the cause of an outcome stands, with nothing carried out.
use Rattle.std.specs.Prelude.{◌≡◌, ℕ, true, List, Some, IsTrue, IsFalse}
use Rattle.ips_outside.specs.Image.{Image}
use Rattle.ips_kinds.specs.Tallies.{Carrier}
use Rattle.ips_history.specs.Directories.{image_for}
use Rattle.ips_history.specs.declared.effect.Effect.{Effect}
use Rattle.ips_history.specs.declared.effect.Effect.TheVariants as effect
use Rattle.ips_report.specs.declared.outcome.Outcome.{Outcome}
use Rattle.ips_run.specs.declared.operation.Decision.{Decision}
use Rattle.ips_run.specs.Comes.{Comes}
use Rattle.ips_words.specs.declared.command.Command.{Command}
use Rattle.ips_words.specs.declared.what.What.TheVariants as what
use Rattle.ips_showing.specs.Asked.{Asked, asked_by}
use Rattle.ips_showing.specs.Shows as showing
use Rattle.ips_operations.specs.changing.Commands.{is_changing}
use Rattle.ips_operations.specs.changing.Decides.{Decides, asked_of}
use Rattle.ips_operations.specs.creating.Creations.{Creation, creating_at}
use Rattle.ips_operations.specs.creating.Decides as creating
use Rattle.ips_operations.specs.fixing.Fixes.{Repairing, fixing_at}
use Rattle.ips_operations.specs.fixing.Decides as fixing
use Rattle.ips_trial.specs.Generated.{IsTried}
use Rattle.ips_tell.specs.told.Told.{claims_done, manner_of}
use Rattle.ips_tell.specs.performing.Performed.{ComesAs}
use Rattle.ips_top.specs.Runs.{IsAnswered}
use Rattle.ips_laws.specs.answers.Same.{IsFixed}

-- The outcome can come of an operation over what the repository holds and what the folder does: it tells an ending whose cause stands there, by what the operation decides,
-- for some image that is left and some counts before and after, whichever actuators were run.
pub record CanCome (effect : Effect) (decides : Image → Decision Outcome → Type 0) (repository held : Image) (told : Outcome) : Type 0 where
  pub left : Image
  pub before : List Carrier
  pub now : List Carrier
  pub comes : ComesAs (Comes effect (decides (image_for effect held)) true repository held left before now (λ runs. Unit {0})) told

-- The cause of the outcome stands for a command at a moment, over what the repository holds and what the folder does: the outcome can come of the operation that the command
-- asks for; or, without it, of a trial in memory; or it is what is answered with nothing done.
pub data CauseStands (c : Command) (moment : ℕ) (repository held : Image) (told : Outcome) : Type 0 where
  Showing : (a : Asked) → asked_by c.what ≡ Some a → CanCome effect.Shows (λ t. showing.Shows t a) repository held told → CauseStands c moment repository held told
  Changing : IsTrue (is_changing c.what) → CanCome effect.Changes (λ t. Decides (asked_of c moment true repository t)) repository held told → CauseStands c moment repository held told
  Creating : (a : Creation) → creating_at c moment ≡ Some a → CanCome effect.Creates (λ t. creating.Decides a t) repository held told → CauseStands c moment repository held told
  Fixing : (a : Repairing) → fixing_at c moment ≡ Some a → CanCome effect.Fixes (λ t. fixing.Decides a t) repository held told → CauseStands c moment repository held told
  Trying : (number : ℕ) → c.what ≡ what.Gen number → (before now : List Carrier) → IsTried number before now told → CauseStands c moment repository held told
  Answering : IsAnswered c.what told → CauseStands c moment repository held told

-- Something hinders the command: the cause of an outcome stands that isn't told as done, and that is no failed call, want of memory, failed program or spent search.
pub record IsHindered (c : Command) (moment : ℕ) (repository held : Image) : Type 0 where
  pub told : Outcome
  pub fixed : IsFixed told
  pub undone : IsFalse (claims_done (manner_of told))
  pub stands : CauseStands c moment repository held told
