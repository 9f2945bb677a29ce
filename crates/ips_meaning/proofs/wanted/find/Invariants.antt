use Rattle.std.proofs.Common.{◌-◌}
use Rattle.ips_meaning.proofs.Halved.{Between}
use Rattle.ips_meaning.proofs.wanted.find.Given as goal

abbrev pub invariant-loop-low : goal.invariant-loop-low
invariant-loop-low l = Between l.entries l.path.bytes l.low l.high

abbrev pub decreases-loop-low : goal.decreases-loop-low
decreases-loop-low l = l.high - l.low
