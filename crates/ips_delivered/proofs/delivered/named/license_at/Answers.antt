use Rattle.ips_metafiles.proofs.Licenses.{bytes_are}
use Rattle.ips_delivered.proofs.delivered.named.license_at.Goals as goal

pub returns-clause-named : goal.returns-clause-named
returns-clause-named c = ((bytes_are c.args.stem.now c.type_inv.stem, c.requires.stem), (bytes_are c.args.name.now c.type_inv.name, c.requires.name))
