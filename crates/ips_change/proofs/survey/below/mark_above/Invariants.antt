use Rattle.std.proofs.Common.{◌≡◌, ℕ, Bool, true, List, length, map}
use Rattle.ips_text.specs.Ancestry.{covers}
use Rattle.ips_change.specs.survey.Marks.{row_paths}
use Rattle.ips_change.proofs.survey.Marking.{so_far}
use Rattle.ips_change.proofs.survey.below.mark_above.Given as goal

abbrev pub invariant-loop-dir : goal.invariant-loop-dir
invariant-loop-dir l = record {
  long : length l.found ≡ length l.rows;
  up : covers l.at l.path ≡ true;
  marked : (test : List ℕ → Bool) → l.fn.found ≡ map test (row_paths l.rows) → l.found ≡ map (so_far test l.path l.at) (row_paths l.rows);
}

abbrev pub decreases-loop-dir : goal.decreases-loop-dir
decreases-loop-dir l = length l.at
