use Rattle.std.proofs.Common.{IsTrue, List, Option, take}
use Rattle.std.specs.List.{AllByRecursion}
use Rattle.ips_outside.specs.Outside.{Reads}
use Rattle.ips_after.specs.Planned.{IsProperRequest}
use Rattle.ips_after.specs.Request.{Request}
use Rattle.ips_change.specs.Told.{naming}
use Rattle.ips_change.specs.survey.Rows.{HasLooked}
use Rattle.ips_change.specs.survey.Marks.{row_paths}
use Rattle.ips_change.specs.survey.Tables.{IsTable}
use Rattle.ips_change.specs.declared.survey.said.Said.{Said}
use Rattle.ips_aside.specs.sides.Sides.{AddsSides}
use Rattle.ips_aside.proofs.sides.siding.add_all.Given as goal

abbrev pub invariant-loop-i : goal.invariant-loop-i
invariant-loop-i g l = record {
  reads : Reads g.S.Source.outside l.fn.source l.source ⊥;
  so_far : IsTrue (g.S.Source.outside.tells l.fn.source) → (r : Request) (said : List (Option Said)) → IsProperRequest r → IsTable r l.rows said → AllByRecursion (HasLooked (g.S.Source.outside.state l.fn.source).held) l.rows
      → AddsSides (naming r) (g.S.Source.outside.state l.fn.source).held (row_paths (take l.i l.rows)) l.fn.sides.items l.sides.items;
}
