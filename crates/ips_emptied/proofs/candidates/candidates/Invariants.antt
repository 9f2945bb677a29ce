use Rattle.std.proofs.Common.{◌≡◌, length, map, take}
use Rattle.ips_outside.specs.Image.{Image}
use Rattle.ips_after.specs.After.{is_support, supported}
use Rattle.ips_after.specs.Request.{IsRequest, Request}
use Rattle.ips_change.specs.Told.{change_told, naming}
use Rattle.ips_change.specs.survey.Marks.{row_paths}
use Rattle.ips_change.specs.survey.Tables.{IsTable}
use Rattle.ips_links.proofs.Linked.{at_path}
use Rattle.ips_emptied.specs.Emptying.{is_candidate}
use Rattle.ips_emptied.proofs.candidates.candidates.Given as goal

abbrev pub invariant-loop-i : goal.invariant-loop-i
invariant-loop-i l = record {
  long : length l.candidates.items ≡ l.i;
  so_far : (r : Request) (t : Image) → IsRequest r → IsTable r l.table.rows.items l.table.said.items → map (change_told r.bytes) l.changes ≡ map (supported (naming r) t) (row_paths l.table.rows.items)
      → l.supports ≡ map (is_support (naming r) t) (row_paths l.table.rows.items)
      → l.candidates.items ≡ map (at_path (is_candidate (naming r) t (row_paths l.table.rows.items))) (take l.i l.table.rows.items);
}
