use Rattle.std.proofs.Common.{◌<◌, length}
use Rattle.ips_search.specs.Searching.{IsSearching, KeepsCount}
use Rattle.ips_search.proofs.steps.proceed.Given as goal

abbrev pub invariant-hunt : goal.invariant-hunt
invariant-hunt g l = let m = g.P.Puzzle.meaning l.puzzle in record {
  searching : IsSearching m l.state;
  room : length l.state.choice.items < m.stems;
  keeps : KeepsCount m l.initial.state l.state;
}

abbrev pub decreases-hunt : goal.decreases-hunt
decreases-hunt g l = length l.state.choice.items
