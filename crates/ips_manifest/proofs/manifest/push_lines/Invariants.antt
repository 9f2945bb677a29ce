use Rattle.std.proofs.Common.{◌≡◌, ◌++◌, string_bytes, take}
use Rattle.ips_manifest.specs.Manifest.{manifest_text}
use Rattle.ips_manifest.proofs.manifest.push_lines.Given as goal

abbrev pub invariant-loop-line : goal.invariant-loop-line
invariant-loop-line l = string_bytes l.out ≡ string_bytes l.fn.out ++ manifest_text (take l.line-index l.lines)
