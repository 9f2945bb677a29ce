use Rattle.std.proofs.Common.{◌≡◌}
use Rattle.ips_outside.specs.Tree.{tree_image}
use Rattle.ips_folder.proofs.Crashes.{at_call}
use Rattle.ips_folder.proofs.log.crash.repeat.Given as goal

abbrev pub invariant-loop-call : goal.invariant-loop-call
invariant-loop-call l = tree_image l.tree ≡ (at_call l.calls (tree_image l.initial.tree) l.call-index).state.held
