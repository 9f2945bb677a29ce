use Rattle.std.proofs.Common.{length, string_bytes}
use Rattle.ips_manifest.proofs.Joins.{Joining}
use Rattle.ips_manifest.proofs.logical.joined.Given as goal

abbrev pub invariant-loop-line : goal.invariant-loop-line
invariant-loop-line l = Joining l.rest.number l.rest.bytes.now (string_bytes l.text) l.left.number l.left.bytes.now

abbrev pub decreases-loop-line : goal.decreases-loop-line
decreases-loop-line l = length l.left.bytes.now
