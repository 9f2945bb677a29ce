use Rattle.std.proofs.Common.{◌≡◌, map, take}
use Rattle.std.specs.List.{AllByRecursion}
use Rattle.ips_outside.specs.Image.{Image}
use Rattle.ips_after.specs.Request.{Request}
use Rattle.ips_change.specs.survey.Rows.{HasLooked, IsRowOf}
use Rattle.ips_change.proofs.survey.Topping.{top_at}
use Rattle.ips_change.proofs.survey.top.tops.Given as goal

abbrev pub invariant-loop-row : goal.invariant-loop-row
invariant-loop-row l = (r : Request) (t : Image) → AllByRecursion (IsRowOf r) l.rows → AllByRecursion (HasLooked t) l.rows → l.marks.items ≡ map (top_at r t) (take l.row-index l.rows)
