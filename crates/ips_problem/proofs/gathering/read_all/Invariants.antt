use Rattle.std.proofs.Common.{IsTrue, ◌≤◌, is_some, take}
use Rattle.std.specs.List.{AllByRecursion}
use Rattle.ips_outside.specs.Outside.{Reads}
use Rattle.ips_request.specs.Case.{IsReading, ManifestReading}
use Rattle.ips_request.specs.Manifests.{all_manifests_limit}
use Rattle.ips_request.specs.Subject.{case_in}
use Rattle.ips_problem.specs.Asked.{tells_where}
use Rattle.ips_problem.specs.Gathered.{AreReadBehind}
use Rattle.ips_problem.specs.Recordable.{IsOverSound, IsSoundRead}
use Rattle.ips_problem.proofs.gathering.read_all.Given as goal

abbrev pub invariant-loop-version : goal.invariant-loop-version
invariant-loop-version g l = record {
  sound : IsOverSound l.subject → AllByRecursion IsSoundRead l.reads.items;
  few : l.total ≤ all_manifests_limit;
  calls : Reads g.S.Source.outside l.fn.source l.source ⊥;
  read : IsTrue (tells_where (is_some l.subject.repo) (g.S.Source.outside.tells l.fn.source)) → (r : ManifestReading) → IsReading l.subject.state.now.settings r
      → AreReadBehind (case_in l.subject (g.S.Source.outside.state l.fn.source).held r) l.fn.total l.total l.stem (take l.version-index l.versions) l.reads.items;
}
