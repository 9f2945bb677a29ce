use Rattle.std.proofs.Common.{◌≡◌, List, ℕ}
use Rattle.ips_conflict.proofs.Marked.{MarkingTo, height}
use Rattle.ips_meaning.specs.Places.{has_path, place_of}
use Rattle.ips_meaning.proofs.paths.add_above.Given as goal

abbrev pub invariant-loop-at : goal.invariant-loop-at
invariant-loop-at l = MarkingTo (has_path l.initial.paths) (has_path l.paths) l.path l.at × ((p : List ℕ) → place_of l.paths p ≡ place_of l.initial.paths p)

abbrev pub decreases-loop-at : goal.decreases-loop-at
decreases-loop-at l = height l.at
