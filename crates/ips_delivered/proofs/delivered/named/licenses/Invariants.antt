use Rattle.std.proofs.Common.{◌≡◌, map, take}
use Rattle.std.specs.List.{AllByRecursion}
use Rattle.ips_delivered.specs.delivered.Delivering.{licenses_of}
use Rattle.ips_delivered.specs.delivered.Named.{NamesLicense, license_told}
use Rattle.ips_delivered.proofs.delivered.named.licenses.Given as goal

abbrev pub invariant-loop-item : goal.invariant-loop-item
invariant-loop-item l = record {
  told : map license_told l.licenses.items ≡ licenses_of (take l.item-index l.admitted);
  named : AllByRecursion NamesLicense (licenses_of (take l.item-index l.admitted));
}
