-- The steps of a decision: what they are given, and what they promise.
use Rattle.std.specs.Prelude.{◌≡◌, ◌≢◌, ℕ, ◌<◌, Bool, IsTrue, List, [], None, Err, IfOk, map}
use Rattle.ips_text.specs.declared.refusal.Or.TheVariants.{Bad}
use Rattle.ips_outside.specs.Image.{Image}
use Rattle.ips_outside.specs.Outside.{Outside, Reads}
use Rattle.ips_steps.specs.Private.{gate_name}
use Rattle.ips_history.specs.declared.effect.Effect.TheVariants as effects
use Rattle.ips_state.specs.Lawful.{IsLawful}
use Rattle.ips_state.specs.State.{recorded}
use Rattle.ips_state.specs.declared.state.State.{State}
use Rattle.ips_load.specs.Held.{Holds}
use Rattle.ips_asked.specs.Formed.{CanBeKept}
use Rattle.ips_meaning.specs.declared.entry.Entry.{Entry}
use Rattle.ips_meaning.specs.declared.finding.Finding.{Finding}
use Rattle.ips_after.specs.Findings.{findings}
use Rattle.ips_change.specs.wanted.Named.{is_payload_of}
use Rattle.ips_change.specs.wanted.Wanted.{want_of}
use Rattle.ips_verify.specs.Verified.{finding_told}
use Rattle.ips_tell.specs.refusals.Told.{Answer}
use Rattle.ips_run.specs.Planned.{CanBeListed, IfChange, IsOfEffect, IsPlanned}
use Rattle.ips_run.specs.declared.operation.DecideFault.TheVariants as fault
use Rattle.ips_tell.specs.told.Told.{IsToldAs}
use Rattle.ips_operations.specs.fixing.Fixes.{Repairing}
use Rattle.ips_operations.specs.fixing.Decides.{Decides, repairs_of}

-- The command can repair the image of the folder by this state: the moment and the command can be recorded, the records tell the state, which isn't of the first format,
-- and no gate stands.
pub record CanRepair {F : Type 0} (o : Outside F) (a : Repairing) (folder : F) (s : State) : Type 0 where
  pub moment : a.moment < 253370764800
  pub kept : CanBeKept a.command.history
  pub format : s.format ≢ 1
  pub lawful : IsLawful (recorded s)
  pub holds : IsTrue (o.tells folder) → Holds (o.state folder).held (recorded s)
  pub shut : IsTrue (o.tells folder) → (o.state folder).held.look gate_name ≡ None

-- Just these are found in the image of the folder against the wanted entries, and they are some.
pub record AreFindings {F : Type 0} (o : Outside F) (folder : F) (want : List (List ℕ × Entry)) (found : List Finding) : Type 0 where
  pub are : IsTrue (o.tells folder) → map finding_told found ≡ findings is_payload_of (want_of want) (o.state folder).held
  pub some : found ≢ []

-- What is decided is what the command decides on this image; a change can be staged there, and repairs it.
pub record IsDecisionOf (a : Repairing) (t : Image) (answer : Answer) : Type 0 where
  pub decided : IfOk answer (Decides a t)
  pub planned : (tells : Bool) (repository : Image) → IfOk answer (IfChange (IsPlanned (repairs_of a) tells repository t))

-- A command that repairs is answered: what is decided is of its effect and told in its manner, and a change can be listed; no call on the repository is to blame, and the
-- folder is only looked at.
pub record AnswersRepair {F : Type 0} (o : Outside F) (old new : F) (answer : Answer) : Type 0 where
  pub of_effect : IfOk answer (IsOfEffect effects.Fixes)
  pub says : IfOk answer IsToldAs
  pub lists : IfOk answer (IfChange CanBeListed)
  pub unasked : answer ≢ Err (Bad fault.SourceFault)
  pub reads : Reads o old new (answer ≡ Err (Bad fault.FolderFault))
