use denote.Text.{Utf8}
use denote.Shadow.{shadow}
use Rattle.std.proofs.Common.{◌≡◌, length}
use Rattle.ips_line.specs.Reading.{attributes_at, said_pairs}
use Rattle.ips_line.proofs.Gathered.{with_pairs}
use Rattle.ips_line.proofs.attributes.pairs.Given as goal

abbrev pub invariant-loop-rest : goal.invariant-loop-rest
invariant-loop-rest l = shadow (Utf8 l.rest) × (with_pairs l.pairs.items (said_pairs (attributes_at l.rest)) ≡ said_pairs (attributes_at l.text))

abbrev pub decreases-loop-rest : goal.decreases-loop-rest
decreases-loop-rest l = length l.rest
