use Rattle.std.proofs.Common.{◌≡◌, map, string_bytes, length}
use Rattle.ips_syntax.specs.Reading.{operands_at}
use Rattle.ips_syntax.proofs.lines.read_operands.Given as goal

abbrev pub invariant-loop-word : goal.invariant-loop-word
invariant-loop-word l = operands_at l.operands l.count l.given.items (map string_bytes l.rest) ≡ operands_at l.operands 0 l.initial.given.items (map string_bytes l.words)

abbrev pub decreases-loop-word : goal.decreases-loop-word
decreases-loop-word l = length l.rest
