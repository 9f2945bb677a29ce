use Rattle.std.proofs.Common.{◌≡◌, length, option_and_then}
use Rattle.std.specs.Prelude.{codes}
use Rattle.serde_json.specs.Data.{Members}
use Rattle.serde_json.specs.Find.{get_member, as_str}
use Rattle.ips_catalog.proofs.Turns.{MembersRead}
use Rattle.ips_catalog.proofs.outline.read_version.Given as goal

abbrev pub invariant-members : goal.invariant-members
invariant-members l =
    (ms : Members) × MembersRead 123 l.initial.reader l.reader ms × (option_and_then as_str (get_member (codes "version") ms) ≡ l.version)

abbrev pub decreases-members : goal.decreases-members
decreases-members l = length l.reader
