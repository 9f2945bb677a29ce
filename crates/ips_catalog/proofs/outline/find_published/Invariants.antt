use Rattle.std.proofs.Common.{◌≡◌, length, option_map}
use Rattle.serde_json.specs.Data.{Members}
use Rattle.serde_json.specs.Find.{get_member}
use Rattle.ips_catalog.specs.Outline.{published_of, published_kept}
use Rattle.ips_catalog.proofs.Turns.{MembersRead}
use Rattle.ips_catalog.proofs.outline.find_published.Given as goal

abbrev pub invariant-members : goal.invariant-members
invariant-members l =
    (ms : Members) × MembersRead 126 l.initial.reader l.reader ms × (option_map published_of (get_member l.publisher ms) ≡ option_map published_kept l.found)

abbrev pub decreases-members : goal.decreases-members
decreases-members l = length l.reader
