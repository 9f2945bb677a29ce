use Rattle.std.proofs.Common.{◌≡◌, map, take}
use Rattle.ips_problem.specs.Held.{posed_of}
use Rattle.ips_next.specs.Tried.{seen_tried, tried_rows}
use Rattle.ips_next.proofs.tried.tried_in.Given as goal

abbrev pub invariant-loop-stem : goal.invariant-loop-stem
invariant-loop-stem l = map seen_tried l.stems.items ≡ take l.stem (tried_rows (posed_of l.problem).stems (posed_of l.problem).rows)
