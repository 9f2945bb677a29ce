use Rattle.std.proofs.Common.{◌≡◌, map}
use Rattle.ips_delivered.proofs.withdrawn.paths.in_order.Given as goal

abbrev pub invariant-loop-key : goal.invariant-loop-key
invariant-loop-key l = map (λ p. p.bytes) l.paths.items ≡ map (λ k. k.now.items) l.yielded
