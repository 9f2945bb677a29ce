use Rattle.std.proofs.Common.{◌≡◌, List, length, map}
use Rattle.serde_json.specs.Data.{Data}
use Rattle.ips_catalog.specs.Outline.{entry_of}
use Rattle.ips_catalog.proofs.Turns.{ItemsRead}
use Rattle.ips_catalog.proofs.outline.read_package.Given as goal

abbrev pub invariant-items : goal.invariant-items
invariant-items l = (ds : List Data) × ItemsRead 124 l.initial.reader l.reader ds × (map entry_of ds ≡ l.entries.items)

abbrev pub decreases-items : goal.decreases-items
decreases-items l = length l.reader
