use Rattle.std.proofs.Common.{true, Some, refl}
use Rattle.std.proofs.lemmas.Bool.{false_from_ne_true}
use Rattle.ips_report.specs.declared.outcome.Outcome.TheVariants as outcome
use Rattle.ips_steps.proofs.Lists.{clash}
use Rattle.ips_tell.specs.told.Told.{claims_done, manner_of}
use Rattle.ips_history.proofs.Histories.{known, restored, recovered_restored, done_restored}
use Rattle.ips_laws.specs.histories.Histories.{Means}
use Rattle.ips_laws.proofs.histories.Runs.{is_a_run}
use Rattle.ips_laws.proofs.histories.histories.histories_are_restored.Goals as goal

pub returns-clause-recovered : goal.returns-clause-recovered
returns-clause-recovered g c = λ l command moment old new forward so_far done tells.
    let o = g.F.Source.outside in
    let sane = g.met.F.Source.sane in
    let run = is_a_run o g.S.Source.outside g.P.Spawner.running command moment old new (outcome.Recovered forward) (λ without shown. shown) done tells in
    (recovered_restored o sane Means l old.folder new.folder (known o sane Means (Some l) (o.state old.folder) so_far) old.counted new.counted (Some forward) forward refl run.2.recovered).0

pub returns-clause-forward : goal.returns-clause-forward
returns-clause-forward g c = λ l command moment old new so_far done tells.
    let o = g.F.Source.outside in
    let sane = g.met.F.Source.sane in
    let run = is_a_run o g.S.Source.outside g.P.Spawner.running command moment old new (outcome.Recovered true) (λ without shown. shown) done tells in
    (recovered_restored o sane Means l old.folder new.folder (known o sane Means (Some l) (o.state old.folder) so_far) old.counted new.counted (Some true) true refl run.2.recovered).1 refl

pub returns-clause-nothing : goal.returns-clause-nothing
returns-clause-nothing g c = λ l command moment old new so_far done tells.
    let o = g.F.Source.outside in
    let sane = g.met.F.Source.sane in
    let run = is_a_run o g.S.Source.outside g.P.Spawner.running command moment old new outcome.NothingToDo (λ without shown. shown) done tells in
    restored o sane Means l (o.state old.folder) (known o sane Means (Some l) (o.state old.folder) so_far) (run.2.unneeded refl).0

pub returns-clause-done : goal.returns-clause-done
returns-clause-done g c = λ l command moment old new told so_far does done goes other tells.
    let o = g.F.Source.outside in
    let sane = g.met.F.Source.sane in
    let q = g.S.Source.outside in
    let run = is_a_run o q g.P.Spawner.running command moment old new told (λ without shown. clash _ goes without) does tells in
    done_restored o sane Means l old.folder new.folder (known o sane Means (Some l) (o.state old.folder) so_far) (record { command = command; moment = moment; tells = q.tells old.source; repository = (q.state old.source).held })
    run.0 (claims_done (manner_of told)) run.2.transition done (false_from_ne_true _ (λ creating. clash _ (run.1 creating) other))
