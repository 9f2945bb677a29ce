use Rattle.std.proofs.Common.{◌-◌}
use Rattle.ips_change.proofs.survey.Placed.{Between}
use Rattle.ips_change.proofs.survey.placing.place.Given as goal

abbrev pub invariant-loop-low : goal.invariant-loop-low
invariant-loop-low l = Between l.rows l.path l.low l.high

abbrev pub decreases-loop-low : goal.decreases-loop-low
decreases-loop-low l = l.high - l.low
