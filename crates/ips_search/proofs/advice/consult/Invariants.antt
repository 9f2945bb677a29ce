use Rattle.std.proofs.Common.{length}
use Rattle.ips_search.specs.Advising.{Learned}
use Rattle.ips_search.proofs.advice.consult.Given as goal

abbrev pub invariant-loop-line : goal.invariant-loop-line
invariant-loop-line g l = Learned (g.P.Puzzle.meaning l.puzzle) l.initial.state l.state

abbrev pub decreases-loop-line : goal.decreases-loop-line
decreases-loop-line g l = length l.lines.items
