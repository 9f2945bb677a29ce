use Rattle.std.proofs.Common.{IsTrue, not, ◌&&◌}
use Rattle.std.specs.List.{list_any}
use Rattle.ips_text.specs.Ancestry.{covers}
use Rattle.ips_outside.specs.Outside.{Reads}
use Rattle.ips_after.specs.Lists.{listed}
use Rattle.ips_change.specs.survey.Marks.{row_paths}
use Rattle.ips_strays.specs.Strays.{Adds}
use Rattle.ips_strays.proofs.Gathered.{first_of}
use Rattle.ips_strays.proofs.hanging.gather_bare.Given as goal

abbrev pub invariant-loop-path : goal.invariant-loop-path
invariant-loop-path g l = record {
  reads : Reads g.F.Source.outside l.fn.folder l.folder ⊥;
  so_far : IsTrue (g.F.Source.outside.tells l.fn.folder) → Adds (g.F.Source.outside.state l.fn.folder).held (λ q. list_any (λ c. not (listed (row_paths l.rows) c) && covers c q) (first_of l.paths l.path-index)) l.fn.strays.items l.strays.items;
}
