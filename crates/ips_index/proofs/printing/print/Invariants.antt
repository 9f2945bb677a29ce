use Rattle.std.proofs.Common.{◌≡◌, map}
use Rattle.std.specs.Prelude.{string_bytes}
use Rattle.ips_index.specs.Rows.{index_text}
use Rattle.ips_index.proofs.printing.print.Given as goal

abbrev pub invariant-loop-row : goal.invariant-loop-row
invariant-loop-row l = string_bytes l.out ≡ index_text (map (λ b. b.now) l.yielded)
