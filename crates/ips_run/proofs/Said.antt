-- What is told of a decision, ending by ending.
use Rattle.std.proofs.Common.{◌≡◌, ℕ, Bool, true, IsFalse, List, refl, ◌∙◌}
use Rattle.ips_steps.proofs.Lists.{clash}
use Rattle.ips_run.specs.declared.operation.Change.{Change}
use Rattle.ips_run.specs.declared.operation.Decision.{Decision}
use Rattle.ips_run.specs.declared.operation.Decision.TheVariants as decision
use Rattle.ips_run.specs.declared.ending.Ending.{Ending}
use Rattle.ips_run.specs.declared.ending.Ending.TheVariants as ending
use Rattle.ips_run.specs.Ending.{is_told, HasPayloadFault, TellsAtMost, TellsAsSaid}
use Rattle.ips_actuate.specs.declared.running.ActFault.{ActFault}
use Rattle.ips_run.specs.Phases.{IsUnrun}
use Rattle.ips_run.specs.Phases as unrun

-- An ending that tells nothing tells nothing else than was said.
pub said_of_none : {T : Type 0} (says : Decision T → Type 0) (x : Ending T) → IsFalse (is_told x) → TellsAsSaid says x
said_of_none says (ending.Done told) silent = absurd (clash true refl silent)
said_of_none says (ending.Shown told) silent = absurd (clash true refl silent)
said_of_none says (ending.Refused told) silent = absurd (clash true refl silent)
said_of_none says ending.NothingToDo silent = tt
said_of_none says ending.Unfinished silent = tt
said_of_none says (ending.BadJournal line) silent = tt
said_of_none says (ending.Recovered forward) silent = tt
said_of_none says (ending.NotDirectory path) silent = tt
said_of_none says (ending.BadPayload name fault) silent = tt
said_of_none says (ending.ActuatorFailed after words status) silent = tt
said_of_none says (ending.SpawnFault after) silent = tt
said_of_none says ending.SourceFault silent = tt
said_of_none says (ending.FolderFault unfinished) silent = tt
said_of_none says ending.OutOfMemory silent = tt

-- One that tells at most what a change tells tells what was said of it.
pub said_of_change : {T : Type 0} (says : Decision T → Type 0) (told : T) (x : Ending T) → ((c : Change T) × says (decision.Change c) × (told ≡ c.told)) → TellsAtMost told x → TellsAsSaid says x
said_of_change says told (ending.Done is) said at = (said.0, said.1, at ∙ said.2)
said_of_change says told (ending.Shown is) said at = absurd at
said_of_change says told (ending.Refused is) said at = absurd at
said_of_change says told ending.NothingToDo said at = tt
said_of_change says told ending.Unfinished said at = tt
said_of_change says told (ending.BadJournal line) said at = tt
said_of_change says told (ending.Recovered forward) said at = tt
said_of_change says told (ending.NotDirectory path) said at = tt
said_of_change says told (ending.BadPayload name fault) said at = tt
said_of_change says told (ending.ActuatorFailed after words status) said at = tt
said_of_change says told (ending.SpawnFault after) said at = tt
said_of_change says told ending.SourceFault said at = tt
said_of_change says told (ending.FolderFault unfinished) said at = tt
said_of_change says told ending.OutOfMemory said at = tt

-- An ending of actuators that weren't run to their end tells nothing of an operation, and no payload's fault.
pub unrun_tells : {T : Type 0} {list : List (List (List ℕ))} {after : Bool} {fault : ActFault} (told : T) (x : Ending T) → IsUnrun list after fault x → TellsAtMost told x
unrun_tells told x (unrun.Failed stands) = tt
unrun_tells told x unrun.Spawn = tt

pub unrun_payload : {T : Type 0} {list : List (List (List ℕ))} {after : Bool} {fault : ActFault} (x : Ending T) → IsUnrun list after fault x → HasPayloadFault x
unrun_payload x (unrun.Failed stands) = tt
unrun_payload x unrun.Spawn = tt
