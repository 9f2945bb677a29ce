use Rattle.std.proofs.Common.{◌≡◌, length, map, take}
use Rattle.std.specs.List.{AllByRecursion}
use Rattle.ips_outside.specs.Image.{Image}
use Rattle.ips_after.specs.Request.{Request}
use Rattle.ips_change.specs.Told.{naming}
use Rattle.ips_change.specs.survey.Rows.{HasLooked}
use Rattle.ips_change.specs.survey.Marks.{IsMarkOf, row_paths}
use Rattle.ips_change.specs.survey.Tables.{IsTable}
use Rattle.ips_links.proofs.Linked.{at_path}
use Rattle.ips_salvage.specs.Destroying.{destroys_else, goes_else}
use Rattle.ips_salvage.proofs.falling.going.Given as goal

abbrev pub invariant-loop-i : goal.invariant-loop-i
invariant-loop-i l = record {
  long : length l.going.items ≡ l.i;
  so_far : (r : Request) (t : Image) → IsTable r l.table.rows.items l.table.said.items → AllByRecursion (HasLooked t) l.table.rows.items → IsMarkOf (destroys_else (naming r) t) (row_paths l.table.rows.items) l.destroyed
      → l.going.items ≡ map (at_path (goes_else (naming r) t)) (take l.i l.table.rows.items);
}
