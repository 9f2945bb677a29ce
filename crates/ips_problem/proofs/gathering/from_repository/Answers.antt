use Rattle.std.proofs.Common.{◌≡◌, Bool, true, false, IsTrue, ap, is_some, option_map, subst, sym}
use Rattle.ips_request.proofs.Results.{ok_also, bad_also}
use Rattle.ips_request.specs.Manifests.{IsFetched, IsFetchFault, IsThere, name_of}
use Rattle.ips_request.specs.Subject.{files_of}
use Rattle.std.proofs.lemmas.Bool.{true≢false}
use Rattle.ips_problem.specs.Asked.{tells_where}
use Rattle.ips_text.specs.declared.refusal.Or.{Or}
use Rattle.ips_request.specs.declared.fault.ProblemFault.{ProblemFault}
use Rattle.ips_request.specs.declared.fault.ProblemFault.TheVariants as fault
use Rattle.ips_problem.proofs.gathering.from_repository.Goals as goal
use Rattle.ips_request.proofs.ManifestFiles.{no_missing}

-- a source that is looked at tells
looked_told : (looked tells : Bool) → looked ≡ true → IsTrue (tells_where looked tells) → IsTrue tells
looked_told true tells is told = told
looked_told false tells is told = absurd (true≢false (sym is))

pub returns-in-Some-clause-found : goal.returns-in-Some-clause-found
returns-in-Some-clause-found g c = λ told.
    let held = (g.S.Source.outside.state c.args.source.now).held in
    let is = ap (option_map (λ r. r.now)) (sym c.in-Some.is) in
    ok_also c.fetched.result _ _ (c.fetched.ensures.found (looked_told _ _ (ap is_some c.in-Some.is) told))
    (λ m h. subst (λ o. IsThere (files_of o held c.args.stem.now c.args.version.now) (IsFetched c.args.total.now c.fetched.new.total m.lines.items)) is h)

pub returns-in-Some-clause-bad : goal.returns-in-Some-clause-bad
returns-in-Some-clause-bad g c = λ told.
    let held = (g.S.Source.outside.state c.args.source.now).held in
    let is = ap (option_map (λ r. r.now)) (sym c.in-Some.is) in
    bad_also c.fetched.result _ _ (c.fetched.ensures.bad (looked_told _ _ (ap is_some c.in-Some.is) told))
    (λ why h. subst (λ o. IsFetchFault c.args.total.now (files_of o held c.args.stem.now c.args.version.now) (name_of (record { stem = c.args.stem.now; version = c.args.version.now })) why) is h)

pub returns-in-None-clause-asks : goal.returns-in-None-clause-asks
returns-in-None-clause-asks g c = λ failed. absurd (no_missing _ c.missing.result c.missing.ensures cc)
