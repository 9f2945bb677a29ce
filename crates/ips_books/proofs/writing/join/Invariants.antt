use Rattle.std.proofs.Common.{◌≡◌, map, take, not, eqb}
use Rattle.std.specs.List.{join_with_byte}
use Rattle.ips_books.proofs.writing.join.Given as goal

abbrev pub invariant-loop-part : goal.invariant-loop-part
invariant-loop-part l = record { text : l.text.items ≡ join_with_byte l.mark (map (λ p. p.now) (take l.part-index l.parts)); behind : l.is_behind ≡ not (eqb l.part-index 0) }
