use Rattle.std.proofs.Common.{◌+◌, ◌≤◌, length}
use Rattle.ips_action.specs.Meaning.{Means}
use Rattle.ips_manifest.specs.Logical.{physical_lines, logical_lines, lines_of}
use Rattle.ips_manifest.specs.Manifest.{line_at}
use Rattle.ips_manifest.proofs.Gone.{Gone}
use Rattle.ips_manifest.proofs.manifest.read_lines.Given as goal

abbrev pub invariant-loop-rest : goal.invariant-loop-rest
invariant-loop-rest l = record {
  gone : Gone Means line_at (lines_of l.bytes) (logical_lines l.rest.number (physical_lines l.rest.bytes.now)) l.lines.items;
  room : l.rest.number + length l.rest.bytes.now ≤ 1 + length l.bytes;
}

abbrev pub decreases-loop-rest : goal.decreases-loop-rest
decreases-loop-rest l = length l.rest.bytes.now
