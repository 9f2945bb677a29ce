use denote.Text.{Utf8}
use denote.Shadow.{shadow}
use Rattle.std.proofs.Common.{◌≡◌, ◌++◌, length, string_bytes}
use Rattle.std.specs.List.{flat_map}
use Rattle.ips_line.specs.Canonical.{escaped_byte}
use Rattle.ips_line.proofs.printing.push_escaped.Given as goal

abbrev pub invariant-loop-place : goal.invariant-loop-place
invariant-loop-place l = shadow (Utf8 l.rest) × (string_bytes l.out ++ flat_map escaped_byte l.rest ≡ string_bytes l.fn.out ++ flat_map escaped_byte l.value)

abbrev pub decreases-loop-place : goal.decreases-loop-place
decreases-loop-place l = length l.rest
