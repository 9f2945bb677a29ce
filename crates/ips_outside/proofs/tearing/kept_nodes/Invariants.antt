use Rattle.ips_outside.specs.Tearing.{in_set}
use Rattle.ips_outside.proofs.Cuts.{KeptSoFar}
use Rattle.ips_outside.proofs.tearing.kept_nodes.Given as goal

abbrev pub invariant-loop-path : goal.invariant-loop-path
invariant-loop-path l = KeptSoFar l.paths.entries l.count (in_set l.names) l.path-iterator l.kept.items
