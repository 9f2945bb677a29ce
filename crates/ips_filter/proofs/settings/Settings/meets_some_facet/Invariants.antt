use Rattle.std.proofs.Common.{length}
use Rattle.ips_filter.proofs.Tags.{Passed, TrueIsOff, HasSeen}
use Rattle.ips_filter.proofs.settings.Settings.meets_some_facet.Given as goal

abbrev pub invariant-loop-attr : goal.invariant-loop-attr
invariant-loop-attr l = (passed : Passed (TrueIsOff l.self) l.attrs l.left) × HasSeen passed.front l.any

abbrev pub decreases-loop-attr : goal.decreases-loop-attr
decreases-loop-attr l = length l.left
