use Rattle.std.proofs.Common.{◌≡◌, ◌&&◌, IsTrue, map, take}
use Rattle.std.specs.List.{list_any}
use Rattle.ips_text.specs.Ancestry.{covers}
use Rattle.ips_outside.specs.Outside.{Reads}
use Rattle.ips_after.specs.Repaired.{Repair, displaces, relinked_as}
use Rattle.ips_change.specs.wanted.Wanted.{want_of}
use Rattle.ips_change.specs.Told.{change_told}
use Rattle.ips_found.specs.Found.{AreThings}
use Rattle.ips_strays.specs.Strays.{Adds}
use Rattle.ips_mend.proofs.displaced.displacing.gather_all.Given as goal

abbrev pub invariant-loop-i : goal.invariant-loop-i
invariant-loop-i g l = record {
  reads : Reads g.F.Source.outside l.fn.folder l.folder ⊥;
  so_far : IsTrue (g.F.Source.outside.tells l.fn.folder) → (f : Repair) → f.want ≡ want_of l.want
      → map (change_told f.bytes) l.changes ≡ map (λ p. relinked_as f (g.F.Source.outside.state l.fn.folder).held p (f.want.at p)) f.want.keys
      → Adds (g.F.Source.outside.state l.fn.folder).held (λ q. list_any (λ p. displaces f (g.F.Source.outside.state l.fn.folder).held p && covers p q) (map (λ e. e.0) (take l.i l.want))) l.fn.things.items l.things.items;
  things : IsTrue (g.F.Source.outside.tells l.fn.folder) → AreThings (g.F.Source.outside.state l.fn.folder).held l.fn.things.items → AreThings (g.F.Source.outside.state l.fn.folder).held l.things.items;
}
