use Rattle.std.proofs.Common.{◌+◌, ◌≤◌, length}
use Rattle.ips_manifest.specs.Logical.{physical_lines, logical_lines, lines_of}
use Rattle.ips_rules.proofs.Behind.{Behind}
use Rattle.ips_rules.proofs.file.read_rules.Given as goal

abbrev pub invariant-loop-rest : goal.invariant-loop-rest
invariant-loop-rest l = record {
  behind : Behind (lines_of l.bytes) (logical_lines l.rest.number (physical_lines l.rest.bytes.now)) l.rules.items;
  room : l.rest.number + length l.rest.bytes.now ≤ 1 + length l.bytes;
}

abbrev pub decreases-loop-rest : goal.decreases-loop-rest
decreases-loop-rest l = length l.rest.bytes.now
