use denote.Text.{Utf8}
use denote.Shadow.{shadow}
use Rattle.std.proofs.Common.{◌≡◌, length}
use Rattle.ips_action.specs.Meaning as meaning
use Rattle.ips_action.proofs.holding.without_slashes.Given as goal

abbrev pub invariant-loop-more : goal.invariant-loop-more
invariant-loop-more l = shadow (Utf8 l.rest) × (meaning.without_slashes l.rest ≡ meaning.without_slashes l.path)

abbrev pub decreases-loop-more : goal.decreases-loop-more
decreases-loop-more l = length l.rest
