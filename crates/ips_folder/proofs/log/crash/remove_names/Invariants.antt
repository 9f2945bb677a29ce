use Rattle.std.proofs.Common.{◌≡◌, take}
use Rattle.ips_outside.specs.Tree.{tree_image}
use Rattle.ips_folder.specs.Crash.{without, touches}
use Rattle.ips_folder.proofs.log.crash.remove_names.Given as goal

abbrev pub invariant-loop-call : goal.invariant-loop-call
invariant-loop-call l = tree_image l.tree ≡ without (touches (take l.call-index l.calls)) (tree_image l.initial.tree)
