use Rattle.ips_catalog.proofs.StemKeys.{same_stem, other_stem, no_stem}
use Rattle.ips_catalog.proofs.stems.read_stem.Goals as goal

pub returns-then-eq : goal.returns-then-eq
returns-then-eq c = same_stem c.in-Ok.fmri c.args.key.now c.eq.result (rw (← c.as_str.ensures) c.eq.ensures) c.if-eq.true c.in-Ok.ensures.found.0

pub returns-else-eq : goal.returns-else-eq
returns-else-eq c = other_stem c.in-Ok.fmri c.args.key.now c.eq.result (rw (← c.as_str.ensures) c.eq.ensures) c.if-eq.false c.in-Ok.ensures.only

pub returns-in-Err-Bad : goal.returns-in-Err-Bad
returns-in-Err-Bad c = no_stem c.in-Err-Bad.field-0-0 c.args.key.now (rw c.in-Err-Bad.field-0-is at c.in-Err-Bad.ensures.only)
