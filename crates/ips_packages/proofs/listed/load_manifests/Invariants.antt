use Rattle.std.proofs.Common.{◌≡◌, IsTrue, map, take}
use Rattle.std.specs.List.{AllByRecursion}
use Rattle.ips_outside.specs.Outside.{Reads}
use Rattle.ips_state.specs.State.{installed}
use Rattle.ips_state.specs.Form.{IsPackage}
use Rattle.ips_state.specs.Text.{versioned_stem}
use Rattle.ips_load.specs.Held.{HoldsManifest}
use Rattle.ips_packages.proofs.listed.load_manifests.Given as goal

abbrev pub invariant-loop-name : goal.invariant-loop-name
invariant-loop-name g l = record {
  reads : Reads g.F.Source.outside l.fn.folder l.folder ⊥;
  names : map versioned_stem (map installed l.packages.items) ≡ take l.name-index l.names;
  lawful : AllByRecursion IsPackage (map installed l.packages.items);
  found : IsTrue (g.F.Source.outside.tells l.fn.folder) → AllByRecursion (HoldsManifest (g.F.Source.outside.state l.fn.folder).held) (map installed l.packages.items);
}
