use Rattle.std.proofs.Common.{◌≡◌, length}
use Rattle.ips_text.specs.Reading.{one_or_more}
use Rattle.ips_text.proofs.Loops.{with_front}
use Rattle.ips_refute.specs.Reading.{pair_at}
use Rattle.ips_refute.proofs.reading.joined_pairs.Given as goal

abbrev pub invariant-loop-pairs : goal.invariant-loop-pairs
invariant-loop-pairs l = with_front l.pairs.items (one_or_more 44 pair_at l.rest) ≡ one_or_more 44 pair_at l.bytes

abbrev pub decreases-loop-pairs : goal.decreases-loop-pairs
decreases-loop-pairs l = length l.rest
