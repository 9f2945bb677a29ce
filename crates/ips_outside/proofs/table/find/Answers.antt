use Rattle.std.proofs.Common.{◌∙◌}
use Rattle.ips_outside.proofs.Maps.{kind_at-get}
use Rattle.ips_outside.proofs.table.find.Goals as goal

pub returns : goal.returns
returns c = c.get.ensures.value ∙ kind_at-get c.args.paths.now.entries c.args.path.now
