use Rattle.std.proofs.Common.{◌≡◌, length}
use Rattle.ips_text.specs.Ancestry as ancestry
use Rattle.ips_text.proofs.hierarchy.parent.Given as goal

abbrev pub invariant-loop-front : goal.invariant-loop-front
invariant-loop-front l = ancestry.parent l.front ≡ ancestry.parent l.path

abbrev pub decreases-loop-front : goal.decreases-loop-front
decreases-loop-front l = length l.front
