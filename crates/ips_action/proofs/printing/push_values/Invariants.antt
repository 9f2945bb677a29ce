use Rattle.std.proofs.Common.{◌≡◌, ◌++◌, length}
use Rattle.std.specs.Prelude.{string_bytes}
use Rattle.ips_action.specs.Action.{attr_text}
use Rattle.ips_action.proofs.printing.push_values.Given as goal

abbrev pub invariant-loop-value : goal.invariant-loop-value
invariant-loop-value l = string_bytes l.out ++ attr_text (record { key = l.attr.key; values = l.left }) ≡ string_bytes l.initial.out ++ attr_text l.attr

abbrev pub decreases-loop-value : goal.decreases-loop-value
decreases-loop-value l = length l.left
