use Rattle.std.proofs.Common.{take}
use Rattle.ips_request.specs.Named.{AreMatched}
use Rattle.ips_request.proofs.naming.matched.Given as goal

abbrev pub invariant-loop-stem : goal.invariant-loop-stem
invariant-loop-stem l = AreMatched l.publisher l.pattern (take l.stem-index l.known) l.matched.items
