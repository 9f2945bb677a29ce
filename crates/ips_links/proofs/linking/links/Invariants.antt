use Rattle.std.proofs.Common.{◌≡◌, length, map, take}
use Rattle.std.specs.List.{AllByRecursion}
use Rattle.ips_outside.specs.Image.{Image}
use Rattle.ips_after.specs.After as after
use Rattle.ips_after.specs.Request.{IsRequest, Request}
use Rattle.ips_change.specs.Fitting.{Fits}
use Rattle.ips_change.specs.Told.{change_told, naming}
use Rattle.ips_change.specs.survey.Rows.{HasLooked}
use Rattle.ips_change.specs.survey.Marks.{row_paths}
use Rattle.ips_change.specs.survey.Tables.{IsTable}
use Rattle.ips_links.specs.Fitting.{AllFit}
use Rattle.ips_links.proofs.Linked.{at_path}
use Rattle.ips_links.proofs.linking.links.Given as goal

abbrev pub invariant-loop-i : goal.invariant-loop-i
invariant-loop-i l = record {
  long : length l.changes.items ≡ l.i;
  so_far : (r : Request) (t : Image) → IsRequest r → IsTable r l.table.rows.items l.table.said.items → AllByRecursion (HasLooked t) l.table.rows.items → l.needs ≡ map (after.needs_file (naming r) t) (row_paths l.table.rows.items)
      → map (change_told r.bytes) l.changes.items ≡ map (at_path (after.linked (naming r) t)) (take l.i l.table.rows.items);
  fit : AllFit Fits l.table.rows.items l.changes.items;
}
