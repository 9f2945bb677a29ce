use Rattle.std.proofs.Common.{◌≡◌, ◌++◌, string_bytes, take}
use Rattle.std.specs.List.{flat_map}
use Rattle.ips_text.specs.Quote.{shown}
use Rattle.ips_records.specs.Lines.{ended}
use Rattle.ips_shown.proofs.contents.push_paths.Given as goal

abbrev pub invariant-loop-path : goal.invariant-loop-path
invariant-loop-path l = string_bytes l.out ≡ string_bytes l.fn.out ++ flat_map (λ path. ended (shown path)) (take l.path-index l.paths)
