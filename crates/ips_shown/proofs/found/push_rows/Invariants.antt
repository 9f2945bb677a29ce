use Rattle.std.proofs.Common.{◌≡◌, ◌++◌, map, string_bytes, take}
use Rattle.ips_index.specs.Rows.{row_seen}
use Rattle.ips_shown.specs.Shown.{found_text}
use Rattle.ips_shown.proofs.found.push_rows.Given as goal

abbrev pub invariant-loop-row : goal.invariant-loop-row
invariant-loop-row l = string_bytes l.out ≡ string_bytes l.fn.out ++ found_text (map row_seen (take l.row-index l.rows))
