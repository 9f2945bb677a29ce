use Rattle.ips_search.proofs.Linking.{HasPassed}
use Rattle.ips_search.proofs.cores.failing.Given as goal

abbrev pub invariant-loop-next : goal.invariant-loop-next
invariant-loop-next g l = HasPassed (g.P.Puzzle.meaning l.puzzle) l.more l.chosen l.next

abbrev pub decreases-loop-next : goal.decreases-loop-next
decreases-loop-next g l = l.next
