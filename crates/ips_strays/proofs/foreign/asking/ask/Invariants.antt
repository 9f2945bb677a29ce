use Rattle.std.proofs.Common.{◌≡◌, ℕ, Bool, IsTrue, List, map, take}
use Rattle.std.specs.List.{AllByRecursion}
use Rattle.ips_outside.specs.Outside.{Reads}
use Rattle.ips_after.specs.After.{change_after}
use Rattle.ips_after.specs.Change.{replaces}
use Rattle.ips_after.specs.Request.{Request, takes}
use Rattle.ips_change.specs.Told.{naming}
use Rattle.ips_change.specs.survey.Rows.{IsRowOf}
use Rattle.ips_change.specs.survey.Marks.{IsMarkOf, row_paths}
use Rattle.ips_found.specs.Found.{AreThings}
use Rattle.ips_strays.specs.Strays.{Adds}
use Rattle.ips_strays.specs.foreign.Foreign.{asks_among}
use Rattle.ips_strays.proofs.foreign.asking.ask.Given as goal

abbrev pub invariant-loop-i : goal.invariant-loop-i
invariant-loop-i g l = record {
  reads : Reads g.F.Source.outside l.fn.folder l.folder ⊥;
  so_far : IsTrue (g.F.Source.outside.tells l.fn.folder) → (r : Request) (emptied : List ℕ → Bool) → AllByRecursion (IsRowOf r) l.rows
      → IsMarkOf (λ q. replaces (change_after (naming r) (g.F.Source.outside.state l.fn.folder).held emptied q)) (row_paths l.rows) l.gone
      → l.away ≡ map (λ q. takes (r.over.at q)) (row_paths l.rows)
      → Adds (g.F.Source.outside.state l.fn.folder).held (asks_among r (g.F.Source.outside.state l.fn.folder).held emptied (row_paths (take l.i l.rows))) l.fn.things.items l.things.items;
  things : IsTrue (g.F.Source.outside.tells l.fn.folder) → AreThings (g.F.Source.outside.state l.fn.folder).held l.fn.things.items → AreThings (g.F.Source.outside.state l.fn.folder).held l.things.items;
}
