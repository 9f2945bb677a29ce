use Rattle.std.proofs.Common.{◌≡◌, length}
use Rattle.std.specs.List.{list_any}
use Rattle.ips_action.specs.Attrs.{is_same}
use Rattle.ips_prepare.proofs.naming.has_value.Given as goal

abbrev pub invariant-loop-text : goal.invariant-loop-text
invariant-loop-text l = list_any (is_same l.value) l.left ≡ list_any (is_same l.value) l.fn.values

abbrev pub decreases-loop-text : goal.decreases-loop-text
decreases-loop-text l = length l.left
