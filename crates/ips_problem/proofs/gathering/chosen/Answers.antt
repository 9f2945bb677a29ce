use Rattle.std.proofs.Common.{◌++◌, ◌∷◌, [], ap, arith, filter, sym, take_all, ◌∙◌}
use Rattle.ips_fmri.specs.Version.{Parts}
use Rattle.ips_request.specs.Manifests.{is_needed}
use Rattle.ips_request.specs.Subject.{case_of}
use Rattle.ips_request.proofs.Lookups.{filter_kept, filter_left}
use Rattle.ips_problem.proofs.gathering.chosen.Goals as goal
use Rattle.ips_problem.proofs.gathering.chosen.Goals.{then-needs+in_ok-copy+in_ok-push, else-needs}

pub loop-version-preserved : goal.loop-version-preserved
loop-version-preserved c = λ file r.
    let p = is_needed c.args.subject.now.kind (case_of c.args.subject.now file r) c.args.stem.now in
    let xs = c.args.versions.now in
    let i = c.loop-version.version-index in
    let x = c.version-item.result in
    let old = c.loop-version.needed.items in
    elim c.if-needs.branch [
      | then-needs+in_ok-copy+in_ok-push w ↦
          ap (λ v. v.items) w.needed-is ∙ w.in_ok-push.ensures.items ∙ ap (λ (v : Parts). old ++ v ∷ []) w.in_ok-copy.ensures
          ∙ filter_kept p xs old i x c.loop-version-test.true c.version-item.is (c.loop-version.invariant file r) (sym (c.needs.ensures file r) ∙ w.if-needs.true)
      | else-needs w ↦
          ap (λ v. v.items) w.needed-is ∙ filter_left p xs old i x c.loop-version-test.true c.version-item.is (c.loop-version.invariant file r) (sym (c.needs.ensures file r) ∙ w.if-needs.false)
    ]

pub returns : goal.returns
returns c = λ file r.
    c.loop-version.invariant file r
    ∙ ap (filter (is_needed c.args.subject.now.kind (case_of c.args.subject.now file r) c.args.stem.now)) (take_all c.loop-version.version-index c.args.versions.now (omega (arith, c.loop-version-test.false)))
