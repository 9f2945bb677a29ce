use Rattle.std.proofs.Common.{◌≡◌, take}
use Rattle.ips_refute.specs.Text.{reasons_of}
use Rattle.ips_refute.proofs.runs.expanded.Given as goal

abbrev pub invariant-loop-run : goal.invariant-loop-run
invariant-loop-run l = l.reasons.items ≡ reasons_of (take l.run-index l.runs)
