use Rattle.std.proofs.Common.{refl}
use Rattle.ips_state.specs.State.{recorded}
use Rattle.ips_next.proofs.deciding.decided.Goals as goal

pub returns-in-Err-Bad-clause-refused : goal.returns-in-Err-Bad-clause-refused
returns-in-Err-Bad-clause-refused g c = λ told.
    rw c.in-Err-Bad.field-0-is (rw c.in-Err-Bad.field-0-is at (c.in-Err-Bad.ensures.refused told (recorded c.args.old.now) (recorded c.args.asked.now) refl))
