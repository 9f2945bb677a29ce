use Rattle.std.proofs.Common.{◌≡◌, IsTrue, map, take}
use Rattle.ips_outside.specs.Outside.{Reads}
use Rattle.ips_after.specs.Request.{Request, takes}
use Rattle.ips_change.specs.Told.{naming}
use Rattle.ips_change.specs.survey.Marks.{IsMarkOf, row_paths}
use Rattle.ips_salvage.specs.Destroying.{goes_else}
use Rattle.ips_found.specs.Found.{AreThings}
use Rattle.ips_strays.specs.Strays.{Adds, hangs_among, opens}
use Rattle.ips_strays.proofs.straying.gather_open.Given as goal

abbrev pub invariant-loop-i : goal.invariant-loop-i
invariant-loop-i g l = record {
  reads : Reads g.F.Source.outside l.fn.folder l.folder ⊥;
  so_far : IsTrue (g.F.Source.outside.tells l.fn.folder) → (r : Request) → l.going ≡ map (goes_else (naming r) (g.F.Source.outside.state l.fn.folder).held) (row_paths l.rows)
      → IsMarkOf (λ q. takes (r.over.at q)) (row_paths l.rows) l.away
      → Adds (g.F.Source.outside.state l.fn.folder).held (hangs_among (opens r (g.F.Source.outside.state l.fn.folder).held) (row_paths l.rows) (row_paths (take l.i l.rows))) l.fn.strays.items l.strays.items;
  things : IsTrue (g.F.Source.outside.tells l.fn.folder) → AreThings (g.F.Source.outside.state l.fn.folder).held l.fn.strays.items → AreThings (g.F.Source.outside.state l.fn.folder).held l.strays.items;
}
