use Rattle.std.proofs.Common.{true, refl}
use Rattle.ips_report.specs.declared.outcome.Outcome.TheVariants as outcome
use Rattle.ips_laws.proofs.histories.Resumed.{lays_what_is_left}
use Rattle.ips_laws.proofs.histories.Runs.{is_a_run}
use Rattle.ips_laws.proofs.histories.resuming.fixes_lay_what_is_left.Goals as goal

pub returns : goal.returns
returns g c = λ command moment old new done tells takes.
    let o = g.F.Source.outside in
    let run = is_a_run o g.S.Source.outside g.P.Spawner.running command moment old new (outcome.Recovered true) (λ without shown. shown) done tells in
    lays_what_is_left o old.counted new.counted old.folder new.folder takes run.2.recovered
