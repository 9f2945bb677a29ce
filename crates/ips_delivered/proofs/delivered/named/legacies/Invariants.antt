use Rattle.std.proofs.Common.{◌≡◌, map, take}
use Rattle.std.specs.List.{AllByRecursion}
use Rattle.ips_delivered.specs.delivered.Delivering.{legacies_of}
use Rattle.ips_delivered.specs.delivered.Named.{NamesLegacy, legacy_told}
use Rattle.ips_delivered.proofs.delivered.named.legacies.Given as goal

abbrev pub invariant-loop-item : goal.invariant-loop-item
invariant-loop-item l = record {
  told : map legacy_told l.legacy.items ≡ legacies_of (take l.item-index l.admitted);
  named : AllByRecursion NamesLegacy (legacies_of (take l.item-index l.admitted));
}
