use Rattle.std.proofs.Common.{◌≡◌, ◌<◌, ℕ, List, IsTrue, Some, filter, take}
use Rattle.std.specs.List.{AllByRecursion}
use Rattle.ips_outside.specs.Image.{File}
use Rattle.ips_outside.specs.Outside.{Reads}
use Rattle.ips_after.specs.Change.{with_given}
use Rattle.ips_after.specs.Request.{Request}
use Rattle.ips_change.specs.survey.Rows.{IsRowOf}
use Rattle.ips_change.specs.survey.Marks.{row_paths}
use Rattle.ips_emptied.specs.Joining.{SettlesRows}
use Rattle.ips_account_files.specs.ledger.Left.{AreReplaced, AreSmallWanted, IsSilent, changes_by, is_ranked}
use Rattle.ips_account_files.proofs.ledger.given.given.Given as goal

abbrev pub invariant-loop-i : goal.invariant-loop-i
invariant-loop-i g l = record {
  reads : Reads g.F.Source.outside l.fn.folder l.folder ⊥;
  small : l.mode < 4096 → (r : Request) → AllByRecursion (IsRowOf r) l.rows → AreSmallWanted r.new → l.given < 4096;
  so_far : IsTrue (g.F.Source.outside.tells l.fn.folder) → (r : Request) (body : List ℕ) → AllByRecursion (IsRowOf r) l.rows → IsSilent r → SettlesRows r (g.F.Source.outside.state l.fn.folder).held l.rows l.settled
      → AreReplaced r (g.F.Source.outside.state l.fn.folder).held l.rows l.settled l.replaced
      → Some (File l.given body) ≡ with_given (changes_by r (g.F.Source.outside.state l.fn.folder).held l.rows l.settled) (filter (λ p. is_ranked l.was (r.old.at p) (r.new.at p)) (row_paths (take l.i l.rows)))
      (g.F.Source.outside.state l.fn.folder).held l.path.bytes (Some (File l.mode body));
}
