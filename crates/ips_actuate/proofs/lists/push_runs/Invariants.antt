use Rattle.std.proofs.Common.{◌≡◌, ◌++◌, map}
use Rattle.ips_actuate.specs.Actuators.{runs}
use Rattle.ips_actuate.proofs.lists.push_runs.Given as goal

abbrev pub invariant-loop-service : goal.invariant-loop-service
invariant-loop-service l = l.list.items ≡ l.initial.list.items ++ runs l.program l.verb (map (λ b. b.now) l.yielded)
