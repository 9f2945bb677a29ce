use Rattle.std.proofs.Common.{◌≡◌, map}
use Rattle.ips_action.specs.Meaning as meaning
use Rattle.ips_action.proofs.holding.hold.Given as goal

abbrev pub invariant-loop-pair : goal.invariant-loop-pair
invariant-loop-pair l = l.held.items ≡ map (meaning.held l.kind) l.yielded
