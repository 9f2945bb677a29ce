use Rattle.std.proofs.Common.{◌≡◌, ◌≤◌, ℕ, false, IsTrue, List, length, map, get_or, Option, Some, slice_get}
use Rattle.ips_outside.specs.Outside.{Reads}
use Rattle.ips_after.specs.After.{change_settled}
use Rattle.ips_after.specs.Change.{replaces}
use Rattle.ips_after.specs.Request.{IsRequest, Request}
use Rattle.ips_change.specs.Told.{naming}
use Rattle.ips_change.specs.survey.Marks.{IsMarkOf, row_paths}
use Rattle.ips_change.specs.declared.survey.said.Said.{Said}
use Rattle.ips_change.specs.survey.Tables.{IsTable}
use Rattle.ips_emptied.specs.Emptying.{IsEmptiedAt, is_candidate}
use Rattle.ips_emptied.proofs.emptying.ask.Given as goal

abbrev pub decreases-loop-i : goal.decreases-loop-i
decreases-loop-i g l = l.i

abbrev pub invariant-loop-i : goal.invariant-loop-i
invariant-loop-i g l = record {
  within : l.i ≤ length l.rows;
  long : length l.emptied ≡ length l.rows;
  reads : Reads g.F.Source.outside l.fn.folder l.folder ⊥;
  found : IsTrue (g.F.Source.outside.tells l.fn.folder) → (r : Request) (said : List (Option Said)) → IsRequest r → IsTable r l.rows said
      → IsMarkOf (λ q. replaces (change_settled (naming r) (g.F.Source.outside.state l.fn.folder).held q)) (row_paths l.rows) l.replaced
      → l.candidates ≡ map (is_candidate (naming r) (g.F.Source.outside.state l.fn.folder).held (row_paths l.rows)) (row_paths l.rows)
      → (k : ℕ) (p : List ℕ) → l.i ≤ k → slice_get (row_paths l.rows) k ≡ Some p → IsEmptiedAt (naming r) (g.F.Source.outside.state l.fn.folder).held p (get_or l.emptied k false);
}
