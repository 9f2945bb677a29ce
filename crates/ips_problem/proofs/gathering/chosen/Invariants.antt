use Rattle.std.proofs.Common.{◌≡◌, ℕ, List, Option, filter, take}
use Rattle.ips_fmri.specs.Version.{Parts}
use Rattle.ips_request.specs.Case.{ManifestReading}
use Rattle.ips_request.specs.Manifests.{is_needed}
use Rattle.ips_request.specs.Subject.{case_of}
use Rattle.ips_problem.proofs.gathering.chosen.Given as goal

abbrev pub invariant-loop-version : goal.invariant-loop-version
invariant-loop-version l = (file : List ℕ → Parts → Option (List ℕ)) (r : ManifestReading) → l.needed.items ≡ filter (is_needed l.subject.kind (case_of l.subject file r) l.stem) (take l.version-index l.versions)
