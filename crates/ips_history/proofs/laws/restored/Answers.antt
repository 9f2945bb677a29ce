use Rattle.std.proofs.Common.{Some}
use Rattle.ips_history.proofs.Histories.{known, kept_until, restored, forward}
use Rattle.ips_history.proofs.laws.restored.Goals as goal

pub returns-clause-owed : goal.returns-clause-owed
returns-clause-owed g c = λ l s so_far. (known g.F.Source.outside g.met.F.Source.sane g.R.Requests.means (Some l) s so_far).0

pub returns-clause-begins : goal.returns-clause-begins
returns-clause-begins g c = λ l r is_done old at new so_far keeps q.
    let o = g.F.Source.outside in
    let sane = g.met.F.Source.sane in
    let means = g.R.Requests.means in
    restored o sane means l (o.state at) (kept_until o sane means l old at keeps (known o sane means (Some l) (o.state old) so_far)) q.shut

pub returns-clause-recovers : goal.returns-clause-recovers
returns-clause-recovers g c = λ l old new so_far keeps shut.
    let o = g.F.Source.outside in
    let sane = g.met.F.Source.sane in
    let means = g.R.Requests.means in
    restored o sane means l (o.state new) (kept_until o sane means l old new keeps (known o sane means (Some l) (o.state old) so_far)) shut

pub returns-clause-forward : goal.returns-clause-forward
returns-clause-forward g c = λ l old new so_far there ends.
    let o = g.F.Source.outside in
    let sane = g.met.F.Source.sane in
    let means = g.R.Requests.means in
    forward o sane means l old new (known o sane means (Some l) (o.state old) so_far) there ends
