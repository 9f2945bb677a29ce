use Rattle.std.proofs.Common.{◌≡◌, length}
use Rattle.serde_json.specs.Data.{Members}
use Rattle.ips_catalog.specs.Outline.{packages_of, packages_kept}
use Rattle.ips_catalog.proofs.Turns.{MembersRead}
use Rattle.ips_catalog.proofs.outline.keep_packages.Given as goal

abbrev pub invariant-members : goal.invariant-members
invariant-members l = (ms : Members) × MembersRead 125 l.initial.reader l.reader ms × (packages_of ms ≡ packages_kept l.packages.entries)

abbrev pub decreases-members : goal.decreases-members
decreases-members l = length l.reader
