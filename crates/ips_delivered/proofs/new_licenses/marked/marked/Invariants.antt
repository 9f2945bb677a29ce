use Rattle.std.proofs.Common.{◌≡◌, List, take}
use Rattle.std.specs.List.{AllByRecursion, list_any}
use Rattle.ips_due.specs.Delivered.{License}
use Rattle.ips_delivered.specs.delivered.Named.{NamesLicense}
use Rattle.ips_delivered.specs.new_licenses.New.{LicenseName, delivers_new}
use Rattle.ips_delivered.specs.new_licenses.Kept.{HasKeys, holds}
use Rattle.ips_delivered.proofs.new_licenses.marked.marked.Given as goal

abbrev pub invariant-loop-item : goal.invariant-loop-item
invariant-loop-item l = (licenses : List License) → AllByRecursion NamesLicense licenses → HasKeys l.was licenses → (one : LicenseName) → holds l.names one ≡ list_any (delivers_new licenses l.key one) (take l.item-index l.is)
