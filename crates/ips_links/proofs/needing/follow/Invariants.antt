use Rattle.std.proofs.Common.{◌≡◌, length, map, take}
use Rattle.std.specs.List.{AllByRecursion}
use Rattle.ips_outside.specs.Image.{Image}
use Rattle.ips_after.specs.Request.{Request}
use Rattle.ips_change.specs.survey.Rows.{HasLooked, IsRowOf}
use Rattle.ips_change.specs.survey.Marks.{row_paths}
use Rattle.ips_links.specs.Leading.{is_led}
use Rattle.ips_links.proofs.needing.follow.Given as goal

abbrev pub invariant-loop-row : goal.invariant-loop-row
invariant-loop-row l = record {
  long : length l.led ≡ length l.rows;
  so_far : (r : Request) (t : Image) → AllByRecursion (IsRowOf r) l.rows → AllByRecursion (HasLooked t) l.rows → l.led ≡ map (is_led r t (row_paths (take l.row-index l.rows))) (row_paths l.rows);
}
