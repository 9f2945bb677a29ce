use Rattle.std.proofs.Common.{◌≡◌, ◌++◌, replicate}
use Rattle.ips_refute.proofs.runs.push_run.Given as goal

abbrev pub invariant-loop-count : goal.invariant-loop-count
invariant-loop-count l = l.reasons.items ≡ l.initial.reasons.items ++ replicate l._count l.run.reason
