use Rattle.std.proofs.Common.{refl}
use Rattle.ips_manifest.proofs.Joins.{read_none, read_some}
use Rattle.ips_manifest.proofs.logical.readable.Goals as goal

pub returns-in-Ok-clause-found : goal.returns-in-Ok-clause-found
returns-in-Ok-clause-found c = (c.in-Ok.ensures.cases.0, read_none c.args.number c.args.line.now c.in-Ok.ensures.cases.1)

pub returns-in-Err-clause-bad : goal.returns-in-Err-clause-bad
returns-in-Err-clause-bad c = (refl, refl, read_some c.args.number c.args.line.now c.in-Err.ensures.cases.0)
