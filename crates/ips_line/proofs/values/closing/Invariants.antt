use Rattle.std.proofs.Common.{◌-◌, length}
use Rattle.ips_line.proofs.Quotes.{SoFar}
use Rattle.ips_line.proofs.values.closing.Given as goal

abbrev pub invariant-loop-place : goal.invariant-loop-place
invariant-loop-place l = SoFar l.quote l.bytes l.place

abbrev pub decreases-loop-place : goal.decreases-loop-place
decreases-loop-place l = length l.bytes - l.place
