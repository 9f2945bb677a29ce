use Rattle.std.proofs.Common.{None, ◌∙◌, ap, option_map, refl, subst, sym}
use Rattle.ips_state.specs.State.{installed}
use Rattle.ips_request.specs.Manifests.{name_of}
use Rattle.ips_request.specs.Subject.{files_of, repo_of}
use Rattle.ips_request.proofs.Results.{ok_also, bad_also}
use Rattle.ips_problem.specs.Gathered.{Got, GotFault}
use Rattle.ips_request.specs.Subject.{case_of}
use Rattle.ips_problem.specs.Recordable.{IsManifest}
use Rattle.ips_problem.proofs.Recording.{no_reading, own_manifest}
use Rattle.ips_problem.proofs.gathering.manifest_of.Goals as goal

pub returns-in_ok-copy-in-Some-clause-got : goal.returns-in_ok-copy-in-Some-clause-got
returns-in_ok-copy-in-Some-clause-got g c = λ told r.
    let files = files_of (repo_of c.args.subject.now) (g.S.Source.outside.state c.args.source.now).held in
    let found = sym (ap (option_map (λ p. installed p.now)) c.in-Some.is) ∙ c.own.ensures files r in
    subst (λ o. Got o (files c.args.stem.now c.args.version.now) c.args.total.now c.args.total.now c.in_ok-copy-in-Some.field-0.lines.items) found (c.in_ok-copy-in-Some.ensures, refl)

pub returns-in-None-clause-got : goal.returns-in-None-clause-got
returns-in-None-clause-got g c = λ told.
    let files = files_of (repo_of c.args.subject.now) (g.S.Source.outside.state c.args.source.now).held in
    ok_also c.from_repository.result _ _ (c.from_repository.ensures.found told)
    (λ m h r. subst (λ o. Got o (files c.args.stem.now c.args.version.now) c.args.total.now c.from_repository.new.total m.lines.items) (sym (ap (option_map (λ p. installed p.now)) c.in-None.is) ∙ c.own.ensures files r) h)

pub returns-in-None-clause-bad : goal.returns-in-None-clause-bad
returns-in-None-clause-bad g c = λ told.
    let files = files_of (repo_of c.args.subject.now) (g.S.Source.outside.state c.args.source.now).held in
    bad_also c.from_repository.result _ _ (c.from_repository.ensures.bad told)
    (λ why h r. subst (λ o. GotFault o (files c.args.stem.now c.args.version.now) c.args.total.now (name_of (record { stem = c.args.stem.now; version = c.args.version.now })) why)
    (sym (ap (option_map (λ p. installed p.now)) c.in-None.is) ∙ c.own.ensures files r) h)

pub returns-in_ok-copy-in-Some-clause-manifest : goal.returns-in_ok-copy-in-Some-clause-manifest
returns-in_ok-copy-in-Some-clause-manifest g c = λ over.
    let case = case_of c.args.subject.now (λ stem v. None) no_reading in
    let found = sym (c.own.ensures (λ stem v. None) no_reading) ∙ ap (option_map (λ p. installed p.now)) c.in-Some.is in
    subst IsManifest (sym c.in_ok-copy-in-Some.ensures) (own_manifest case c.args.stem.now c.args.version.now _ over.packages found)
