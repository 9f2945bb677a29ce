use Rattle.std.proofs.Common.{◌≡◌, length, map, take}
use Rattle.ips_outside.specs.Image.{Image}
use Rattle.ips_after.specs.After as after
use Rattle.ips_after.specs.Request.{Request}
use Rattle.ips_change.specs.Told.{change_told, naming}
use Rattle.ips_change.specs.survey.Marks.{row_paths}
use Rattle.ips_change.specs.survey.Tables.{IsTable}
use Rattle.ips_links.specs.Made.{is_made}
use Rattle.ips_links.proofs.Linked.{at_path}
use Rattle.ips_links.proofs.making.made.Given as goal

abbrev pub invariant-loop-i : goal.invariant-loop-i
invariant-loop-i l = record {
  long : length l.made.items ≡ l.i;
  so_far : (r : Request) (t : Image) → IsTable r l.table.rows.items l.table.said.items → map (change_told r.bytes) l.changes ≡ map (after.linked (naming r) t) (row_paths l.table.rows.items)
      → l.made.items ≡ map (at_path (is_made r t)) (take l.i l.table.rows.items);
}
