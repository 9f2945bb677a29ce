use Rattle.std.proofs.Common.{◌≡◌, length, map, take}
use Rattle.std.specs.List.{AllByRecursion}
use Rattle.ips_outside.specs.Image.{Image}
use Rattle.ips_after.specs.After.{supported}
use Rattle.ips_after.specs.Request.{Request}
use Rattle.ips_change.specs.Told.{change_told, naming}
use Rattle.ips_change.specs.survey.Rows.{HasLooked}
use Rattle.ips_change.specs.survey.Marks.{row_paths}
use Rattle.ips_change.specs.survey.Tables.{IsTable}
use Rattle.ips_links.proofs.Linked.{at_path}
use Rattle.ips_salvage.specs.Destroying.{destroys_else}
use Rattle.ips_salvage.proofs.destroying.destroyed.Given as goal

abbrev pub invariant-loop-i : goal.invariant-loop-i
invariant-loop-i l = record {
  long : length l.marks.items ≡ l.i;
  so_far : (r : Request) (t : Image) → IsTable r l.table.rows.items l.table.said.items → AllByRecursion (HasLooked t) l.table.rows.items → map (change_told r.bytes) l.changes ≡ map (supported (naming r) t) (row_paths l.table.rows.items)
      → l.marks.items ≡ map (at_path (destroys_else (naming r) t)) (take l.i l.table.rows.items);
}
