use Rattle.std.proofs.Common.{◌≡◌, ◌++◌, map, take}
use Rattle.std.specs.Prelude.{string_bytes}
use Rattle.ips_metafiles.specs.Records.{info_lines, key_seen}
use Rattle.ips_metafiles.proofs.legacy.push_lines.Given as goal

abbrev pub invariant-loop-key : goal.invariant-loop-key
invariant-loop-key l = string_bytes l.out ≡ string_bytes l.initial.out ++ info_lines l.action (map key_seen (take l.key-index l.keys))
