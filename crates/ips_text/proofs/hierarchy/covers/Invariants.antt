use Rattle.std.proofs.Common.{◌≡◌, length}
use Rattle.ips_text.specs.Ancestry as ancestry
use Rattle.ips_text.proofs.hierarchy.covers.Given as goal

abbrev pub invariant-loop-up : goal.invariant-loop-up
invariant-loop-up l = ancestry.covers l.up l.down ≡ ancestry.covers l.above l.path

abbrev pub decreases-loop-up : goal.decreases-loop-up
decreases-loop-up l = length l.up
