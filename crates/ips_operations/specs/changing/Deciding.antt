-- What is promised of a call that decides on a changing command.
use Rattle.std.specs.Prelude.{◌≡◌, ℕ, IsTrue, None, Err, IfOk}
use Rattle.ips_text.specs.declared.refusal.Or.TheVariants.{Bad}
use Rattle.ips_outside.specs.Outside.{Outside, Reads}
use Rattle.ips_steps.specs.Private.{gate_name}
use Rattle.ips_words.specs.declared.command.Command.{Command}
use Rattle.ips_history.specs.declared.effect.Effect.TheVariants.{Changes}
use Rattle.ips_state.specs.State.{recorded}
use Rattle.ips_state.specs.Lawful.{IsLawful}
use Rattle.ips_state.specs.declared.state.State.{State}
use Rattle.ips_load.specs.Held.{Holds}
use Rattle.ips_run.specs.Planned.{CanBeListed, IfChange, IsOfEffect, IsPlanned}
use Rattle.ips_run.specs.declared.operation.DecideFault.TheVariants.{FolderFault, SourceFault}
use Rattle.ips_tell.specs.told.Told.{IsToldAs}
use Rattle.ips_tell.specs.refusals.Told.{Answer}
use Rattle.ips_operations.specs.changing.Decides.{Decides, asked_of}
use Rattle.ips_operations.specs.changing.Leads.{LeadsWhere}

-- A state was loaded from this folder: it can be recorded, and where the folder tells what it holds, the records tell this state, and the gate is closed.
pub record IsLoaded {F : Type 0} (o : Outside F) (folder : F) (old : State) : Type 0 where
  pub shut : IsTrue (o.tells folder) → (o.state folder).held.look gate_name ≡ None
  pub lawful : IsLawful (recorded old)
  pub holds : IsTrue (o.tells folder) → Holds (o.state folder).held (recorded old)

-- The answer is what the command decides at this moment, a refusal under its cause or the change that it means, whose steps a journal can list and which can be
-- staged; and folder and repository are only looked at, where a call that failed is told as such.
pub record IsDecisionOrFault {F S : Type 0} (o : Outside F) (q : Outside S) (c : Command) (moment : ℕ) (folder later : F) (repository after : S) (answer : Answer) : Type 0 where
  pub decided : IsTrue (o.tells folder) → IfOk answer (Decides (asked_of c moment (q.tells repository) (q.state repository).held (o.state folder).held))
  pub of_effect : IfOk answer (IsOfEffect Changes)
  pub says : IfOk answer IsToldAs
  pub lists : IfOk answer (IfChange CanBeListed)
  pub planned : IsTrue (o.tells folder) → IfOk answer (IfChange (IsPlanned (LeadsWhere c moment) (q.tells repository) (q.state repository).held (o.state folder).held))
  pub reads : Reads o folder later (answer ≡ Err (Bad FolderFault))
  pub source : Reads q repository after (answer ≡ Err (Bad SourceFault))
