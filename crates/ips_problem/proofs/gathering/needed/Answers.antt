use Rattle.std.proofs.Common.{◌≡◌, ◌∙◌, List, ℕ, Option, ap, filter, reverse}
use Rattle.ips_fmri.specs.Version.{Parts}
use Rattle.ips_catalog.specs.Listed.{versions_of}
use Rattle.ips_request.specs.Case.{Case, installed_version}
use Rattle.ips_request.specs.Candidates.{newest, with_installed}
use Rattle.ips_request.specs.Manifests.{is_needed}
use Rattle.ips_request.specs.Subject.{case_of}
use Rattle.ips_request.proofs.Results.{ok_also}
use Rattle.ips_problem.proofs.gathering.needed.Goals as goal

newest_so : (c : Case) (stem : List ℕ) (listed : List Parts) (o : Option Parts) → listed ≡ versions_of c.catalog stem → o ≡ installed_version c stem → reverse (with_installed listed o) ≡ newest c stem
newest_so c stem listed o l i = λ k. reverse (with_installed (l k) (i k))

pub returns : goal.returns
returns c =
    let s = c.args.subject.now in
    let stem = c.args.stem.now in
    ok_also c.chosen.result _ _ c.chosen.ensures
    (λ v h file r.
    let case = case_of s file r in
    h file r ∙ ap (filter (is_needed s.kind case stem)) (c.as_slice.ensures.value ∙ c.in_ok-newest.ensures ∙ newest_so case stem c.listed.result.now _ c.listed.ensures (c.installed_version.ensures file r)))
