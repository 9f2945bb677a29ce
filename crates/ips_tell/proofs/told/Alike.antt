-- An outcome claims what its ending claims, and blames whom it blames.
use Rattle.std.proofs.Common.{◌≡◌, Bool, refl, sym, ◌∙◌, ap}
use Rattle.ips_contents.specs.Contents.{IsPayloadFault}
use Rattle.ips_repo.specs.declared.fault.RepoFault.{RepoFault}
use Rattle.ips_repo.specs.declared.fault.RepoFault.TheVariants as fault
use Rattle.ips_digest.specs.declared.name.PayloadName.{PayloadName}
use Rattle.ips_report.specs.declared.outcome.Outcome.{Outcome}
use Rattle.ips_run.specs.Ending.{HasPayloadFault, TellsAsSaid, claim_of, is_folder_fault, is_source_fault, is_spawn_fault}
use Rattle.ips_run.specs.declared.ending.Ending.{Ending}
use Rattle.ips_run.specs.declared.ending.Ending.TheVariants as ending
use Rattle.ips_tell.specs.told.Told.{Manner, Wording, Carried, Showing, Refusing, Needless, AtGate, BadJournal, Recovering, Acting, Spawning, AtSource, AtFolder, Starving, IsToldAs, blames_folder, blames_source, blames_spawner, claimed, manner_of, payload_told, told_as}

-- In which manner a run has ended, by its ending.
abbrev pub manner_as : Ending Outcome → Manner
manner_as (ending.Done told) = Carried
manner_as (ending.Shown told) = Showing
manner_as (ending.Refused told) = Refusing
manner_as ending.NothingToDo = Needless
manner_as ending.Unfinished = AtGate
manner_as (ending.BadJournal line) = BadJournal
manner_as (ending.Recovered forward) = Recovering forward
manner_as (ending.NotDirectory path) = Refusing
manner_as (ending.BadPayload name fault) = Refusing
manner_as (ending.ActuatorFailed after words status) = Acting after
manner_as (ending.SpawnFault after) = Spawning after
manner_as ending.SourceFault = AtSource
manner_as (ending.FolderFault unfinished) = AtFolder unfinished
manner_as ending.OutOfMemory = Starving

-- A payload's fault is told as a refusal.
payload_refuses : (name : PayloadName) (why : RepoFault) → IsPayloadFault name why → manner_of (payload_told name why) ≡ Refusing
payload_refuses name fault.NoRepository is = absurd is
payload_refuses name (fault.BadCatalog why) is = absurd is
payload_refuses name fault.ManifestMissing is = absurd is
payload_refuses name (fault.BadManifest why) is = absurd is
payload_refuses name fault.PayloadMissing is = refl
payload_refuses name (fault.PayloadDamaged found) is = refl
payload_refuses name (fault.Compressed found) is = refl
payload_refuses name (fault.TooLarge which count) is = refl
payload_refuses name fault.SourceFault is = absurd is

-- The outcome tells the manner of the ending.
pub manner_told : (x : Ending Outcome) → TellsAsSaid IsToldAs x → HasPayloadFault x → manner_of (told_as x) ≡ manner_as x
manner_told (ending.Done told) says payload = ap manner_of says.2 ∙ says.1
manner_told (ending.Shown told) says payload = says
manner_told (ending.Refused told) says payload = says
manner_told ending.NothingToDo says payload = refl
manner_told ending.Unfinished says payload = refl
manner_told (ending.BadJournal line) says payload = refl
manner_told (ending.Recovered forward) says payload = refl
manner_told (ending.NotDirectory path) says payload = refl
manner_told (ending.BadPayload name why) says payload = payload_refuses name why payload
manner_told (ending.ActuatorFailed after words status) says payload = refl
manner_told (ending.SpawnFault after) says payload = refl
manner_told ending.SourceFault says payload = refl
manner_told (ending.FolderFault unfinished) says payload = refl
manner_told ending.OutOfMemory says payload = refl

-- What is claimed in that manner is what the ending claims.
pub claims_as : (x : Ending Outcome) → claimed (manner_as x) ≡ claim_of x
claims_as (ending.Done told) = refl
claims_as (ending.Shown told) = refl
claims_as (ending.Refused told) = refl
claims_as ending.NothingToDo = refl
claims_as ending.Unfinished = refl
claims_as (ending.BadJournal line) = refl
claims_as (ending.Recovered forward) = refl
claims_as (ending.NotDirectory path) = refl
claims_as (ending.BadPayload name why) = refl
claims_as (ending.ActuatorFailed after words status) = refl
claims_as (ending.SpawnFault after) = refl
claims_as ending.SourceFault = refl
claims_as (ending.FolderFault unfinished) = refl
claims_as ending.OutOfMemory = refl

-- The folder is blamed alike.
pub blames_folder_as : (x : Ending Outcome) → blames_folder (manner_as x) ≡ is_folder_fault x
blames_folder_as (ending.Done told) = refl
blames_folder_as (ending.Shown told) = refl
blames_folder_as (ending.Refused told) = refl
blames_folder_as ending.NothingToDo = refl
blames_folder_as ending.Unfinished = refl
blames_folder_as (ending.BadJournal line) = refl
blames_folder_as (ending.Recovered forward) = refl
blames_folder_as (ending.NotDirectory path) = refl
blames_folder_as (ending.BadPayload name why) = refl
blames_folder_as (ending.ActuatorFailed after words status) = refl
blames_folder_as (ending.SpawnFault after) = refl
blames_folder_as ending.SourceFault = refl
blames_folder_as (ending.FolderFault unfinished) = refl
blames_folder_as ending.OutOfMemory = refl

-- The source is blamed alike.
pub blames_source_as : (x : Ending Outcome) → blames_source (manner_as x) ≡ is_source_fault x
blames_source_as (ending.Done told) = refl
blames_source_as (ending.Shown told) = refl
blames_source_as (ending.Refused told) = refl
blames_source_as ending.NothingToDo = refl
blames_source_as ending.Unfinished = refl
blames_source_as (ending.BadJournal line) = refl
blames_source_as (ending.Recovered forward) = refl
blames_source_as (ending.NotDirectory path) = refl
blames_source_as (ending.BadPayload name why) = refl
blames_source_as (ending.ActuatorFailed after words status) = refl
blames_source_as (ending.SpawnFault after) = refl
blames_source_as ending.SourceFault = refl
blames_source_as (ending.FolderFault unfinished) = refl
blames_source_as ending.OutOfMemory = refl

-- The spawner is blamed alike.
pub blames_spawner_as : (x : Ending Outcome) → blames_spawner (manner_as x) ≡ is_spawn_fault x
blames_spawner_as (ending.Done told) = refl
blames_spawner_as (ending.Shown told) = refl
blames_spawner_as (ending.Refused told) = refl
blames_spawner_as ending.NothingToDo = refl
blames_spawner_as ending.Unfinished = refl
blames_spawner_as (ending.BadJournal line) = refl
blames_spawner_as (ending.Recovered forward) = refl
blames_spawner_as (ending.NotDirectory path) = refl
blames_spawner_as (ending.BadPayload name why) = refl
blames_spawner_as (ending.ActuatorFailed after words status) = refl
blames_spawner_as (ending.SpawnFault after) = refl
blames_spawner_as ending.SourceFault = refl
blames_spawner_as (ending.FolderFault unfinished) = refl
blames_spawner_as ending.OutOfMemory = refl
