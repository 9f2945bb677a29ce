use Rattle.std.proofs.Common.{◌≡◌, ◌+◌, ◌≤◌, drop, length, map}
use Rattle.std.specs.Option.{option_map}
use Rattle.ips_plan_limits.specs.Names.{most_times}
use Rattle.ips_plan_limits.proofs.Named.{first_of, first_times}
use Rattle.ips_plan_limits.proofs.names.most_times.Given as goal

abbrev pub invariant-loop-at : goal.invariant-loop-at
invariant-loop-at l = record {
  within : l.at ≤ length l.paths;
  room : l.run + l.at ≤ length l.paths;
  few : l.most + l.at ≤ length l.paths;
  next : option_map (λ n. n.now) l.next ≡ first_of (drop l.at (map (λ p. p.now) l.paths));
  run : l.run ≡ first_times (drop l.at (map (λ p. p.now) l.paths));
  most : l.most ≡ most_times (drop l.at (map (λ p. p.now) l.paths));
}

abbrev pub decreases-loop-at : goal.decreases-loop-at
decreases-loop-at l = l.at
