use Rattle.ips_steps.proofs.Lists.{clash}
use Rattle.ips_laws.proofs.histories.Resumed.{lays_few_again}
use Rattle.ips_laws.proofs.histories.Runs.{is_a_run}
use Rattle.ips_laws.proofs.histories.resuming.fixes_lay_few_again.Goals as goal

pub returns : goal.returns
returns g c = λ command moment old new told done goes unfinished tells takes.
    let o = g.F.Source.outside in
    let run = is_a_run o g.S.Source.outside g.P.Spawner.running command moment old new told (λ without shown. clash _ goes without) done tells in
    lays_few_again o old.counted new.counted old.folder new.folder takes (run.2.resumes unfinished)
