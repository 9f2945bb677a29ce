use denote.Text.{Utf8}
use denote.Shadow.{shadow}
use Rattle.std.proofs.Common.{length}
use Rattle.ips_rules.proofs.Left.{Asked}
use Rattle.ips_rules.proofs.selecting.selectors.Given as goal

abbrev pub invariant-loop-term : goal.invariant-loop-term
invariant-loop-term l = shadow (Utf8 l.rest) × Asked l.text l.rest l.list.items

abbrev pub decreases-loop-term : goal.decreases-loop-term
decreases-loop-term l = length l.rest
