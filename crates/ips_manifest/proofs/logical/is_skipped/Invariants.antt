use Rattle.std.proofs.Common.{◌≡◌, drop}
use Rattle.ips_manifest.specs.Logical.{is_skipped}
use Rattle.ips_manifest.proofs.logical.is_skipped.Given as goal

abbrev pub invariant-loop-byte : goal.invariant-loop-byte
invariant-loop-byte l = is_skipped (drop l.byte-index l.line) ≡ is_skipped l.line
