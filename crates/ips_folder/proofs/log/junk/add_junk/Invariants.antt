use Rattle.ips_outside.specs.Tree.{tree_image}
use Rattle.ips_outside.specs.Tearing.{in_set}
use Rattle.ips_folder.proofs.Junks.{JunkSoFar}
use Rattle.ips_folder.proofs.log.junk.add_junk.Given as goal

abbrev pub invariant-loop-name : goal.invariant-loop-name
invariant-loop-name l = JunkSoFar (in_set l.names) (tree_image l.initial.tree) l.name-iterator (tree_image l.tree)
