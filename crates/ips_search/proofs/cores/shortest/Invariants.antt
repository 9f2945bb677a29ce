use Rattle.std.proofs.Common.{◌≤◌, ◌<◌, ◌-◌}
use Rattle.ips_search.specs.Searching.{IsKept}
use Rattle.ips_search.proofs.cores.shortest.Given as goal

abbrev pub invariant-loop-low : goal.invariant-loop-low
invariant-loop-low g l = record {
  ordered : l.low ≤ l.high;
  bounded : l.high ≤ l.front;
  from : l.low ≤ l.middle;
  to : l.low < l.high → l.middle < l.high;
  kept : IsKept (g.P.Puzzle.meaning l.puzzle) l.whole l.more l.test l.high l.kept;
}

abbrev pub decreases-loop-low : goal.decreases-loop-low
decreases-loop-low g l = l.high - l.low
