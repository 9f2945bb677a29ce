use Rattle.ips_steps.proofs.Lists.{clash}
use Rattle.ips_laws.proofs.histories.Runs.{is_a_run}
use Rattle.ips_laws.proofs.histories.histories.commands_are_runs.Goals as goal

pub returns : goal.returns
returns g c = λ command moment old new told done goes tells. is_a_run g.F.Source.outside g.S.Source.outside g.P.Spawner.running command moment old new told (λ without shown. clash _ goes without) done tells
