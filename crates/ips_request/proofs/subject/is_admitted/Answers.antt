use Rattle.ips_depend.proofs.Matching.{incorporated_same}
use Rattle.ips_request.proofs.subject.is_admitted.Goals as goal

pub returns-in-Some : goal.returns-in-Some
returns-in-Some c = rw c.in-Some.is (incorporated_same _ _ _ c.incorporates.ensures)
