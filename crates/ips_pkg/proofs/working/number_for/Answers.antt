use Rattle.std.proofs.Common.{◌∙◌}
use Rattle.ips_pkg.specs.Ends.{Found}
use Rattle.ips_pkg.proofs.working.number_for.Goals as goal

pub returns : goal.returns
returns c = Found c.take_lock-found.result (λ free. c.take_lock-found.ensures.free (c.in-Ok.ensures ∙ free)) c.number_found.ensures
