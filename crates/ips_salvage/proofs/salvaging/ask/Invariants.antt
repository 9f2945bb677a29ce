use Rattle.std.proofs.Common.{◌≡◌, IsTrue, length, map, take}
use Rattle.std.specs.List.{AllByRecursion}
use Rattle.ips_outside.specs.Outside.{Reads}
use Rattle.ips_after.specs.Request.{Request, takes}
use Rattle.ips_after.specs.Salvage as salvage
use Rattle.ips_change.specs.Told.{naming}
use Rattle.ips_change.specs.survey.Rows.{HasLooked}
use Rattle.ips_change.specs.survey.Marks.{IsMarkOf, row_paths}
use Rattle.ips_change.specs.survey.Tables.{IsTable}
use Rattle.ips_links.proofs.Linked.{at_path}
use Rattle.ips_salvage.specs.Destroying.{goes_else}
use Rattle.ips_salvage.proofs.salvaging.ask.Given as goal

abbrev pub invariant-loop-i : goal.invariant-loop-i
invariant-loop-i g l = record {
  long : length l.salvaged.items ≡ l.i;
  room : length l.buffer ≡ length l.fn.buffer;
  reads : Reads g.F.Source.outside l.fn.folder l.folder ⊥;
  so_far : IsTrue (g.F.Source.outside.tells l.fn.folder) → (r : Request) → IsTable r l.table.rows.items l.table.said.items → AllByRecursion (HasLooked (g.F.Source.outside.state l.fn.folder).held) l.table.rows.items
      → IsMarkOf (λ q. takes (r.over.at q)) (row_paths l.table.rows.items) l.away
      → l.going ≡ map (goes_else (naming r) (g.F.Source.outside.state l.fn.folder).held) (row_paths l.table.rows.items)
      → l.salvaged.items ≡ map (at_path (salvage.salvaged (naming r) (g.F.Source.outside.state l.fn.folder).held)) (take l.i l.table.rows.items);
}
