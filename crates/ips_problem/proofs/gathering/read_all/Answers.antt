use Rattle.std.proofs.Common.{is_some, ◌∷◌, ◌+◌, ◌∙◌, [], Global, Vec, ap, refl, subst, sym, take}
use Rattle.std.proofs.lemmas.Result.{err_from_is_err_and}
use Rattle.ips_text.specs.declared.refusal.Or.TheVariants.{Bad}
use Rattle.ips_outside.specs.State.{State}
use Rattle.ips_outside.proofs.Reading.{handed_on, no_fault, reads_none, reads_then}
use Rattle.ips_request.specs.declared.fault.ProblemFault.TheVariants as fault
use Rattle.ips_request.specs.declared.read.Read.{Read}
use Rattle.ips_request.specs.Manifests.{IsManifestFault}
use Rattle.ips_request.specs.Subject.{case_in}
use Rattle.ips_request.proofs.Named.{bad_handed}
use Rattle.ips_problem.specs.Gathered.{AreReadBehind, IsReadBehind}
use Rattle.std.specs.List.{AllByRecursion}
use Rattle.ips_text.proofs.Lists.{all_append}
use Rattle.ips_problem.specs.Recordable.{IsSoundRead}
use Rattle.ips_problem.specs.Asked.{tells_where}
use Rattle.ips_problem.proofs.Growth.{none_read, read_next, fault_next}
use Rattle.ips_problem.proofs.gathering.read_all.Goals as goal

pub loop-version-init : goal.loop-version-init
loop-version-init g c = record {
  sound = λ over. subst (AllByRecursion IsSoundRead) (sym c.new-reads.ensures.items) tt;
  few = c.requires;
  calls = reads_none g.S.Source.outside c.args.source.now ⊥ (λ f. f);
  read = λ told r is. subst (AreReadBehind (case_in c.args.subject.now (g.S.Source.outside.state c.args.source.now).held r) c.args.total.now c.args.total.now c.args.stem.now []) (sym c.new-reads.ensures.items)
      (none_read (case_in c.args.subject.now (g.S.Source.outside.state c.args.source.now).held r) c.args.total.now c.args.stem.now);
}

pub loop-version-preserved : goal.loop-version-preserved
loop-version-preserved g c = record {
  sound = λ over. subst (AllByRecursion IsSoundRead) (sym c.in_ok-push.ensures.items) (all_append IsSoundRead c.loop-version.reads.items (c.in-Ok.read ∷ []) (c.loop-version.invariant.sound over) (c.in-Ok.ensures.sound over, tt));
  few = c.read_version.ensures.few;
  calls = reads_then g.S.Source.outside c.args.source.now c.loop-version.source c.read_version.new.source _ ⊥ c.loop-version.invariant.calls c.read_version.ensures.reads
      (no_fault c.read_version.result c.in-Ok.read (Bad fault.SourceFault) c.in-Ok.is) (λ f. absurd f);
  read = λ told r is.
      let s = c.args.subject.now in
      let stem = c.args.stem.now in
      let v = c.version-item.result in
      let inv = c.loop-version.invariant in
      let case = case_in s (g.S.Source.outside.state c.args.source.now).held r in
      let kept = ap (λ (t : State). case_in s t.held r) inv.calls.kept in
      let one = subst (λ c'. IsReadBehind c' c.loop-version.total c.read_version.new.total stem v c.in-Ok.read) kept (c.in-Ok.ensures.read (ap (tells_where (is_some c.args.subject.now.repo)) inv.calls.call.same_kind ∙ told) r is) in
      subst (AreReadBehind case c.args.total.now c.read_version.new.total stem (take (c.loop-version.version-index + 1) c.args.versions.now)) (sym c.in_ok-push.ensures.items)
      (read_next case c.args.total.now c.loop-version.total c.read_version.new.total stem c.args.versions.now c.loop-version.version-index v c.loop-version.reads.items c.in-Ok.read
      c.loop-version-test.true c.version-item.is (inv.read told r is) one);
}

pub returns-in-Err-clause-bad : goal.returns-in-Err-clause-bad
returns-in-Err-clause-bad g c = λ told.
    let s = c.args.subject.now in
    let stem = c.args.stem.now in
    let v = c.version-item.result in
    let inv = c.loop-version.invariant in
    bad_handed Read (Vec Read Global) _ _ c.in-Err.why (c.in-Err.ensures.bad (ap (tells_where (is_some c.args.subject.now.repo)) inv.calls.call.same_kind ∙ told))
    (λ why h r is.
    let kept = ap (λ (t : State). case_in s t.held r) inv.calls.kept in
    fault_next s.state.now.settings (case_in s (g.S.Source.outside.state c.args.source.now).held r) c.args.total.now c.loop-version.total stem c.args.versions.now c.loop-version.version-index v c.loop-version.reads.items why
    c.loop-version-test.true c.version-item.is inv.few (inv.read told r is)
    (subst (λ c'. IsManifestFault s.state.now.settings c' c.loop-version.total (record { stem = stem; version = v }) why) kept (h r is)))

pub returns-in-Err-clause-reads : goal.returns-in-Err-clause-reads
returns-in-Err-clause-reads g c =
    reads_then g.S.Source.outside c.args.source.now c.loop-version.source c.read_version.new.source _ _ c.loop-version.invariant.calls c.read_version.ensures.reads
    (λ failed. handed_on _ c.read_version.result c.in-Err.why (Bad fault.SourceFault) refl c.in-Err.is failed)
    (λ failed. handed_on c.read_version.result _ c.in-Err.why (Bad fault.SourceFault) c.in-Err.is refl failed)

pub returns-in_err-push-clause-reads : goal.returns-in_err-push-clause-reads
returns-in_err-push-clause-reads g c =
    let left = err_from_is_err_and c.from_residual.result c.from_residual.ensures.1 in
    reads_then g.S.Source.outside c.args.source.now c.loop-version.source c.read_version.new.source _ _ c.loop-version.invariant.calls c.read_version.ensures.reads
    (λ failed. absurd (no_fault c.read_version.result c.in-Ok.read (Bad fault.SourceFault) c.in-Ok.is failed))
    (λ failed. absurd (cc (left.1, left.2)))

pub returns-in-Err-clause-asks : goal.returns-in-Err-clause-asks
returns-in-Err-clause-asks g c = λ failed. c.read_version.ensures.asks (handed_on c.read_version.result _ c.in-Err.why (Bad fault.SourceFault) c.in-Err.is refl failed)
