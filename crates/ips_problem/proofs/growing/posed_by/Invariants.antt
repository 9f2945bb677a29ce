use Rattle.std.proofs.Common.{IsTrue, is_some}
use Rattle.ips_outside.specs.Outside.{Reads}
use Rattle.ips_request.specs.Case.{IsReading, ManifestReading}
use Rattle.ips_request.specs.Subject.{case_in}
use Rattle.ips_problem.specs.Asked.{tells_where}
use Rattle.ips_problem.specs.Gathered.{IsGathered}
use Rattle.ips_problem.specs.Recordable.{IsOverSound, IsSoundlyGathered}
use Rattle.ips_problem.proofs.growing.posed_by.Given as goal

abbrev pub invariant-loop-turn : goal.invariant-loop-turn
invariant-loop-turn g l = record {
  sound : IsOverSound l.subject → IsSoundlyGathered l.gathered;
  calls : Reads g.S.Source.outside l.fn.source l.source ⊥;
  gone : IsTrue (tells_where (is_some l.subject.repo) (g.S.Source.outside.tells l.fn.source)) → (r : ManifestReading) → IsReading l.subject.state.now.settings r → IsGathered (case_in l.subject (g.S.Source.outside.state l.fn.source).held r) l.gathered;
}
