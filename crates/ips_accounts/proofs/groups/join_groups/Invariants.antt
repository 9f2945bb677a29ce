use Rattle.std.proofs.Common.{◌≡◌, length}
use Rattle.ips_accounts.specs.Editing.{in_groups}
use Rattle.ips_accounts.proofs.groups.join_groups.Given as goal

abbrev pub invariant-loop-group : goal.invariant-loop-group
invariant-loop-group l = in_groups l.user l.left l.lines ≡ in_groups l.user l.fn.groups l.initial.lines

abbrev pub decreases-loop-group : goal.decreases-loop-group
decreases-loop-group l = length l.left
