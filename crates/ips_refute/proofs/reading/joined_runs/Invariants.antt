use Rattle.std.proofs.Common.{◌≡◌, length}
use Rattle.ips_text.specs.Reading.{one_or_more}
use Rattle.ips_text.proofs.Loops.{with_front}
use Rattle.ips_refute.specs.Reading.{run_at}
use Rattle.ips_refute.proofs.reading.joined_runs.Given as goal

abbrev pub invariant-loop-runs : goal.invariant-loop-runs
invariant-loop-runs l = with_front l.runs.items (one_or_more 32 (run_at l.counts) l.rest) ≡ one_or_more 32 (run_at l.counts) l.bytes

abbrev pub decreases-loop-runs : goal.decreases-loop-runs
decreases-loop-runs l = length l.rest
