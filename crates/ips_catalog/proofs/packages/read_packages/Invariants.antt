use Rattle.std.proofs.Common.{◌≡◌, length, map}
use Rattle.ips_catalog.specs.Seen.{seen}
use Rattle.ips_catalog.specs.Reading.{packages_at}
use Rattle.ips_catalog.specs.Outline.{packages_kept, packages_data}
use Rattle.ips_catalog.proofs.Walks.{behind}
use Rattle.ips_catalog.proofs.packages.read_packages.Given as goal

abbrev pub invariant-members : goal.invariant-members
invariant-members l =
    packages_at l.publisher (packages_data (packages_kept l.initial.members.entries)) ≡ behind (map seen l.packages.items) (packages_at l.publisher (packages_data (packages_kept l.members.entries)))

abbrev pub decreases-members : goal.decreases-members
decreases-members l = length l.members.entries
