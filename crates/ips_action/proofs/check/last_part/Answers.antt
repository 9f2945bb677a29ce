use Rattle.ips_action.proofs.Parts.{last_on}
use Rattle.ips_action.proofs.check.last_part.Goals as goal

pub loop-part-preserved : goal.loop-part-preserved
loop-part-preserved c =
    last_on c.loop-part.left.now c.first_part.result.0.now c.in_default-Some.rest.now _ (rw c.in_default-Some.is-1 at c.first_part.ensures) c.loop-part.invariant
