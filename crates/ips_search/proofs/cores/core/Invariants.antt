use Rattle.ips_search.specs.Searching.{IsKept}
use Rattle.ips_search.proofs.cores.core.Given as goal

abbrev pub invariant-loop-front : goal.invariant-loop-front
invariant-loop-front g l = IsKept (g.P.Puzzle.meaning l.puzzle) l.whole l.more l.test l.front l.kept.items

abbrev pub decreases-loop-front : goal.decreases-loop-front
decreases-loop-front g l = l.front
