use Rattle.std.proofs.Common.{◌≡◌, ℕ, Bool, List, length}
use Rattle.ips_text.specs.Ancestry.{parent}
use Rattle.ips_after.specs.Change.{reached}
use Rattle.ips_change.specs.survey.Marks.{IsMarkOf, row_paths}
use Rattle.ips_change.proofs.survey.Reached.{reached_at}
use Rattle.ips_change.proofs.survey.reaching.is_reached.Given as goal

abbrev pub invariant-loop-dir : goal.invariant-loop-dir
invariant-loop-dir l = (test : List ℕ → Bool) → IsMarkOf test (row_paths l.rows) l.marks → reached test l.path ≡ reached_at test (parent l.at)

abbrev pub decreases-loop-dir : goal.decreases-loop-dir
decreases-loop-dir l = length l.at
