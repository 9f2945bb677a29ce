use Rattle.std.proofs.Common.{◌≡◌, ℕ, Bool, List, length, map, take}
use Rattle.ips_change.specs.survey.Marks.{IsMarkOf, holds_below, row_paths}
use Rattle.ips_change.proofs.survey.below.mark_all.Given as goal

abbrev pub invariant-loop-i : goal.invariant-loop-i
invariant-loop-i l = record {
  long : length l.found ≡ length l.rows;
  marked : (test : List ℕ → Bool) → IsMarkOf test (row_paths l.rows) l.marks → l.found ≡ map (holds_below test (take l.i (row_paths l.rows))) (row_paths l.rows);
}
