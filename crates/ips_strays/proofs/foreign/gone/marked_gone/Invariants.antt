use Rattle.std.proofs.Common.{◌≡◌, length, map, take}
use Rattle.ips_outside.specs.Image.{Image}
use Rattle.ips_after.specs.After.{change_after, supported}
use Rattle.ips_after.specs.Change.{replaces}
use Rattle.ips_after.specs.Request.{Request}
use Rattle.ips_change.specs.Told.{change_told, naming}
use Rattle.ips_change.specs.survey.Marks.{row_paths}
use Rattle.ips_change.specs.survey.Tables.{IsTable}
use Rattle.ips_links.proofs.Linked.{at_path}
use Rattle.ips_emptied.specs.Emptying.{marked_in}
use Rattle.ips_strays.proofs.foreign.gone.marked_gone.Given as goal

abbrev pub invariant-loop-i : goal.invariant-loop-i
invariant-loop-i l = record {
  long : length l.marks.items ≡ l.i;
  so_far : (r : Request) (t : Image) → IsTable r l.table.rows.items l.table.said.items → map (change_told r.bytes) l.changes ≡ map (supported (naming r) t) (row_paths l.table.rows.items)
      → l.marks.items ≡ map (at_path (λ q. replaces (change_after (naming r) t (marked_in (row_paths l.table.rows.items) l.emptied) q))) (take l.i l.table.rows.items);
}
