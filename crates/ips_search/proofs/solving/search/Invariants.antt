use Rattle.ips_search.specs.Searching.{IsSearching, IsCounted}
use Rattle.ips_search.proofs.solving.search.Given as goal

abbrev pub invariant-loop-reached : goal.invariant-loop-reached
invariant-loop-reached g l = let m = g.P.Puzzle.meaning l.puzzle in record {
  searching : IsSearching m l.state;
  counted : IsCounted m l.state l.reached;
}
