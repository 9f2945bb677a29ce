use Rattle.std.proofs.Common.{true}
use Rattle.ips_history.specs.Directories.{image_for}
use Rattle.ips_run.specs.Comes.{HasRun}
use Rattle.ips_run.specs.Exclusive.{way_of}
use Rattle.ips_run.proofs.Exclusive.{before_run, one_alone}
use Rattle.ips_run.proofs.laws.one_way.Goals as goal

pub returns : goal.returns
returns g c = λ operation repository held left left' old now now' before after before' after' x y unique first second sound sounds.
    let effect = g.C.Operation.effect operation in
    let decides = g.C.Operation.decides operation true repository (image_for effect held) in
    one_alone effect decides repository held unique (way_of x) (way_of y) (before_run effect decides repository held left old now (HasRun g.P.Spawner.running before after) x first sound)
    (before_run effect decides repository held left' old now' (HasRun g.P.Spawner.running before' after') y second sounds)
