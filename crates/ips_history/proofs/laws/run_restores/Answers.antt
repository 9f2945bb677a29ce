use Rattle.std.proofs.Common.{Some, refl}
use Rattle.ips_history.proofs.Histories.{known, restored, done_restored, recovered_restored}
use Rattle.ips_history.proofs.laws.run_restores.Goals as goal

pub returns-clause-done : goal.returns-clause-done
returns-clause-done g c = λ l r effect claim before now old new so_far run done other.
    let o = g.F.Source.outside in
    let sane = g.met.F.Source.sane in
    let means = g.R.Requests.means in
    done_restored o sane means l old new (known o sane means (Some l) (o.state old) so_far) r effect claim.done run.transition done other

pub returns-clause-nothing : goal.returns-clause-nothing
returns-clause-nothing g c = λ l r effect claim before now old new so_far run none.
    let o = g.F.Source.outside in
    let sane = g.met.F.Source.sane in
    let means = g.R.Requests.means in
    restored o sane means l (o.state old) (known o sane means (Some l) (o.state old) so_far) (run.unneeded none).0

pub returns-clause-recovered : goal.returns-clause-recovered
returns-clause-recovered g c = λ l r effect claim before now old new so_far run forward is.
    let o = g.F.Source.outside in
    let sane = g.met.F.Source.sane in
    let means = g.R.Requests.means in
    (recovered_restored o sane means l old new (known o sane means (Some l) (o.state old) so_far) before now claim.recovered forward is run.recovered).0

pub returns-clause-forward : goal.returns-clause-forward
returns-clause-forward g c = λ l r effect claim before now old new so_far run is.
    let o = g.F.Source.outside in
    let sane = g.met.F.Source.sane in
    let means = g.R.Requests.means in
    (recovered_restored o sane means l old new (known o sane means (Some l) (o.state old) so_far) before now claim.recovered _ is run.recovered).1 refl
