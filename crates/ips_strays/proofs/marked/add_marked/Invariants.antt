use Rattle.std.proofs.Common.{◌≡◌, ◌&&◌, ℕ, Bool, IsTrue, List, map, take}
use Rattle.std.specs.List.{list_any}
use Rattle.ips_text.specs.Ancestry.{same_path}
use Rattle.ips_outside.specs.Outside.{Reads}
use Rattle.ips_change.specs.survey.Marks.{row_paths}
use Rattle.ips_found.specs.Found.{AreThings}
use Rattle.ips_strays.specs.Strays.{Adds}
use Rattle.ips_strays.proofs.marked.add_marked.Given as goal

abbrev pub invariant-loop-i : goal.invariant-loop-i
invariant-loop-i g l = record {
  reads : Reads g.F.Source.outside l.fn.folder l.folder ⊥;
  so_far : IsTrue (g.F.Source.outside.tells l.fn.folder) → (test : List ℕ → Bool) → l.marks ≡ map test (row_paths l.rows)
      → Adds (g.F.Source.outside.state l.fn.folder).held (λ q. list_any (λ p. test p && same_path p q) (row_paths (take l.i l.rows))) l.fn.things.items l.things.items;
  things : IsTrue (g.F.Source.outside.tells l.fn.folder) → AreThings (g.F.Source.outside.state l.fn.folder).held l.fn.things.items → AreThings (g.F.Source.outside.state l.fn.folder).held l.things.items;
}
