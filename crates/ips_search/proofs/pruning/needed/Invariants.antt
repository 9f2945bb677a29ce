use Rattle.ips_search.proofs.pruning.needed.Given as goal

abbrev pub decreases-loop-left : goal.decreases-loop-left
decreases-loop-left l = l.left
