use Rattle.std.proofs.Common.{◌≡◌, length}
use Rattle.ips_search.specs.Searching.{IsSearching, KeepsCount}
use Rattle.ips_search.proofs.steps.settle.Given as goal

abbrev pub invariant-loop-candidate : goal.invariant-loop-candidate
invariant-loop-candidate g l = let m = g.P.Puzzle.meaning l.puzzle in record {
  searching : IsSearching m l.state;
  same : l.state.choice.items ≡ l.initial.state.choice.items;
  tried : length l.state.top.reasons.items ≡ l.candidate;
  keeps : KeepsCount m l.initial.state l.state;
}
