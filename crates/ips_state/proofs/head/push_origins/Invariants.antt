use Rattle.std.proofs.Common.{◌≡◌, ◌++◌, take, map}
use Rattle.ips_records.specs.Lines.{lines_text}
use Rattle.ips_state.specs.Text.{origin_line}
use Rattle.ips_state.proofs.head.push_origins.Given as goal

abbrev pub invariant-loop-origin : goal.invariant-loop-origin
invariant-loop-origin l = l.out.items ≡ l.fn.out.items ++ lines_text (map origin_line (take l.origin-index l.origins))
