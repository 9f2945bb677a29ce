use Rattle.std.proofs.Common.{map, take}
use Rattle.ips_request.specs.Named.{AreNamed}
use Rattle.ips_request.proofs.naming.named_by.Given as goal

abbrev pub invariant-loop-pattern : goal.invariant-loop-pattern
invariant-loop-pattern l = AreNamed l.publisher l.known (take l.pattern-index l.patterns) (map (λ v. v.items) l.named.items)
