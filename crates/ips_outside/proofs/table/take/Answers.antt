use Rattle.std.proofs.Common.{◌≡◌, true, is_some, ◌∙◌, ap}
use Rattle.ips_outside.proofs.Maps.{kind_at-get, kind_at-taken, fewer}
use Rattle.ips_outside.proofs.table.take.Goals as goal

pub returns-clause-taken : goal.returns-clause-taken
returns-clause-taken c = kind_at-taken c.args.paths.now c.remove.new.self c.args.path.now c.remove.ensures.updates

pub returns-clause-fewer : goal.returns-clause-fewer
returns-clause-fewer c = λ some.
    let found : is_some c.remove.result ≡ true = ap is_some (c.remove.ensures.value ∙ kind_at-get c.args.paths.now.entries c.args.path.now) ∙ some in
    fewer (is_some c.remove.result) _ _ found c.remove.ensures.len
