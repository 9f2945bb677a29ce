use Rattle.std.proofs.Common.{◌≡◌, length}
use Rattle.ips_text.specs.Path.{parts}
use Rattle.ips_action.specs.Check as checks
use Rattle.ips_action.proofs.check.last_part.Given as goal

abbrev pub invariant-loop-part : goal.invariant-loop-part
invariant-loop-part l = checks.last_of (parts l.left) ≡ checks.last_of (parts l.path)

abbrev pub decreases-loop-part : goal.decreases-loop-part
decreases-loop-part l = length (parts l.left)
