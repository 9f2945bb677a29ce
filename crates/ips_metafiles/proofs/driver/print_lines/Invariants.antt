use Rattle.std.proofs.Common.{◌≡◌, map}
use Rattle.std.specs.Prelude.{string_bytes}
use Rattle.ips_metafiles.specs.Records.{lines_text}
use Rattle.ips_metafiles.proofs.driver.print_lines.Given as goal

abbrev pub invariant-loop-line : goal.invariant-loop-line
invariant-loop-line l = string_bytes l.out ≡ lines_text (map (λ b. b.now) l.yielded)
