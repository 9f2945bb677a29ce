use Rattle.ips_metafiles.proofs.Licenses.{bytes_are}
use Rattle.ips_delivered.proofs.delivered.named.legacy_at.Goals as goal

pub returns-clause-named : goal.returns-clause-named
returns-clause-named c = (bytes_are c.args.pkg.now c.type_inv.pkg, c.requires)
