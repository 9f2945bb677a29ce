use Rattle.ips_request.proofs.Subjects.{AreNamedTo}
use Rattle.ips_request.proofs.making.namings.Given as goal

abbrev pub invariant-loop-pattern : goal.invariant-loop-pattern
invariant-loop-pattern l = AreNamedTo l.publisher l.known l.patterns l.pattern-index l.namings.items
