use Rattle.std.proofs.Common.{◌∙◌, List, Vec, ℕ, Global, ap}
use Rattle.ips_outside.specs.Table.{kind_at}
use Rattle.ips_outside.specs.declared.table.Kind.{Kind}
use Rattle.ips_outside.proofs.Maps.{kind_at-insert}
use Rattle.ips_outside.proofs.table.put.Goals as goal

pub returns-clause-put : goal.returns-clause-put
returns-clause-put c =
    λ q. ap (λ (entries : List (Vec ℕ Global × Kind)). kind_at entries q) c.in_ok-insert.ensures.entries ∙ kind_at-insert c.args.kind q c.args.path c.args.paths.now.entries
