use Rattle.std.proofs.Common.{◌≡◌, IsTrue, length, map, take}
use Rattle.std.specs.List.{AllByRecursion}
use Rattle.ips_outside.specs.Outside.{Reads}
use Rattle.ips_after.specs.After as after
use Rattle.ips_after.specs.Request.{Request}
use Rattle.ips_change.specs.Told.{naming}
use Rattle.ips_change.specs.survey.Rows.{HasLooked}
use Rattle.ips_change.specs.survey.Marks.{row_paths}
use Rattle.ips_change.specs.survey.Tables.{IsTable}
use Rattle.ips_links.proofs.Linked.{at_path}
use Rattle.ips_links.proofs.supporting.ask.Given as goal

abbrev pub invariant-loop-i : goal.invariant-loop-i
invariant-loop-i g l = record {
  long : length l.supports.items ≡ l.i;
  reads : Reads g.S.Source.outside l.fn.source l.source ⊥;
  so_far : IsTrue (g.S.Source.outside.tells l.fn.source) → (r : Request) → IsTable r l.table.rows.items l.table.said.items → AllByRecursion (HasLooked (g.S.Source.outside.state l.fn.source).held) l.table.rows.items
      → l.below ≡ map (after.holds_made (naming r) (g.S.Source.outside.state l.fn.source).held) (row_paths l.table.rows.items)
      → l.taken ≡ map (after.is_taken (naming r) (g.S.Source.outside.state l.fn.source).held) (row_paths l.table.rows.items)
      → l.supports.items ≡ map (at_path (after.is_support (naming r) (g.S.Source.outside.state l.fn.source).held)) (take l.i l.table.rows.items);
}
