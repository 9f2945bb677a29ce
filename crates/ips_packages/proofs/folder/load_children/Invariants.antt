use Rattle.std.proofs.Common.{◌≡◌, IsTrue, map, take}
use Rattle.std.specs.List.{AllByRecursion}
use Rattle.ips_text.specs.Kept.{Kept}
use Rattle.ips_outside.specs.Outside.{Reads}
use Rattle.ips_state.specs.State.{installed}
use Rattle.ips_state.specs.Form.{IsPackage}
use Rattle.ips_load.specs.Held.{HoldsPackage}
use Rattle.ips_packages.specs.Placed.{places}
use Rattle.ips_packages.proofs.folder.load_children.Given as goal

abbrev pub invariant-loop-child : goal.invariant-loop-child
invariant-loop-child g l = record {
  reads : Reads g.F.Source.outside l.fn.folder l.folder ⊥;
  places : places (map installed l.packages.items) ≡ map (λ (p : Kept). p.bytes) (take l.child-index l.children);
  lawful : AllByRecursion IsPackage (map installed l.packages.items);
  found : IsTrue (g.F.Source.outside.tells l.fn.folder) → AllByRecursion (HoldsPackage (g.F.Source.outside.state l.fn.folder).held) (map installed l.packages.items);
}
