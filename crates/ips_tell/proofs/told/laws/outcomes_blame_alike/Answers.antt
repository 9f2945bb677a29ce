use Rattle.std.proofs.Common.{◌∙◌, ap}
use Rattle.ips_tell.specs.told.Told.{blames_folder, blames_source, blames_spawner}
use Rattle.ips_tell.proofs.told.Alike.{manner_told, blames_folder_as, blames_source_as, blames_spawner_as}
use Rattle.ips_tell.proofs.told.laws.outcomes_blame_alike.Goals as goal

pub returns-clause-folder : goal.returns-clause-folder
returns-clause-folder c = λ x says payload. ap blames_folder (manner_told x says payload) ∙ blames_folder_as x

pub returns-clause-source : goal.returns-clause-source
returns-clause-source c = λ x says payload. ap blames_source (manner_told x says payload) ∙ blames_source_as x

pub returns-clause-spawner : goal.returns-clause-spawner
returns-clause-spawner c = λ x says payload. ap blames_spawner (manner_told x says payload) ∙ blames_spawner_as x
