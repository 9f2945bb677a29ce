use Rattle.std.proofs.Common.{is_some, ◌∙◌, ap, refl, subst}
use Rattle.std.proofs.lemmas.Result.{err_from_is_err_and}
use Rattle.ips_text.specs.declared.refusal.Or.TheVariants.{Bad}
use Rattle.ips_outside.specs.State.{State}
use Rattle.ips_outside.proofs.Reading.{handed_on, no_fault, reads_as, reads_none, reads_then}
use Rattle.ips_request.specs.declared.fault.ProblemFault.TheVariants as fault
use Rattle.ips_request.specs.Subject.{case_in, files_of, repo_of}
use Rattle.ips_request.proofs.Named.{bad_handed}
use Rattle.ips_problem.specs.declared.gathered.Gathered.{Gathered}
use Rattle.ips_problem.specs.declared.problem.Problem.{Problem}
use Rattle.ips_problem.specs.Fault.{IsFirstFault}
use Rattle.ips_problem.specs.Gathered.{IsGathered}
use Rattle.ips_problem.specs.Asked.{tells_where}
use Rattle.ips_problem.proofs.growing.posed_by.Goals as goal

pub loop-turn-init : goal.loop-turn-init
loop-turn-init g c = record {
  sound = λ over. c.in_ok-gathered.ensures.sound;
  calls = reads_none g.S.Source.outside c.args.source.now ⊥ (λ f. f);
  gone = λ told r is. c.in_ok-gathered.ensures.gathered (files_of (repo_of c.args.subject.now) (g.S.Source.outside.state c.args.source.now).held) r;
}

pub loop-turn-preserved : goal.loop-turn-preserved
loop-turn-preserved g c = record {
  sound = λ over. c.in-Ok.ensures.sound over (c.loop-turn.invariant.sound over);
  calls = reads_then g.S.Source.outside c.args.source.now c.loop-turn.source c.next.new.source _ ⊥ c.loop-turn.invariant.calls c.next.ensures.reads
      (no_fault c.next.result c.in-Ok.gathered (Bad fault.SourceFault) c.in-Ok.is) (λ f. absurd f);
  gone = λ told r is.
      let s = c.args.subject.now in
      let inv = c.loop-turn.invariant in
      let kept = ap (λ (t : State). case_in s t.held r) inv.calls.kept in
      subst (λ c'. IsGathered c' c.loop-turn.gathered → IsGathered c' c.in-Ok.gathered) kept (c.in-Ok.ensures.gathered (ap (tells_where (is_some c.args.subject.now.repo)) inv.calls.call.same_kind ∙ told) r is) (inv.gone told r is);
}

pub returns-then-is_whole-clause-posed : goal.returns-then-is_whole-clause-posed
returns-then-is_whole-clause-posed g c = λ told r is.
    let inv = c.loop-turn.invariant in
    c.in_ok-whole.ensures.posed (files_of (repo_of c.args.subject.now) (g.S.Source.outside.state c.args.source.now).held) r (inv.gone told r is)

pub returns-then-is_whole-clause-reads : goal.returns-then-is_whole-clause-reads
returns-then-is_whole-clause-reads g c =
    reads_as g.S.Source.outside c.args.source.now c.loop-turn.source ⊥ _ c.loop-turn.invariant.calls (λ f. absurd f) (λ failed. cc)

pub returns-in_err-whole-clause-reads : goal.returns-in_err-whole-clause-reads
returns-in_err-whole-clause-reads g c =
    let left = err_from_is_err_and c.from_residual-in_err-whole.result c.from_residual-in_err-whole.ensures.1 in
    let is = left.1 in
    let memory = left.2 in
    reads_as g.S.Source.outside c.args.source.now c.loop-turn.source ⊥ _ c.loop-turn.invariant.calls (λ f. absurd f) (λ failed. cc)

pub returns-in-Err-clause-bad : goal.returns-in-Err-clause-bad
returns-in-Err-clause-bad g c = λ told.
    let s = c.args.subject.now in
    let inv = c.loop-turn.invariant in
    bad_handed Gathered Problem _ _ c.in-Err.why (c.in-Err.ensures.bad (ap (tells_where (is_some c.args.subject.now.repo)) inv.calls.call.same_kind ∙ told))
    (λ why h r is.
    let kept = ap (λ (t : State). case_in s t.held r) inv.calls.kept in
    subst (λ c'. IsGathered c' c.loop-turn.gathered → IsFirstFault s.state.now.settings c' why) kept (h r is) (inv.gone told r is))

pub returns-in-Err-clause-reads : goal.returns-in-Err-clause-reads
returns-in-Err-clause-reads g c =
    reads_then g.S.Source.outside c.args.source.now c.loop-turn.source c.next.new.source _ _ c.loop-turn.invariant.calls c.next.ensures.reads
    (λ failed. handed_on _ c.next.result c.in-Err.why (Bad fault.SourceFault) refl c.in-Err.is failed)
    (λ failed. handed_on c.next.result _ c.in-Err.why (Bad fault.SourceFault) c.in-Err.is refl failed)

pub returns-clause-reads : goal.returns-clause-reads
returns-clause-reads g c =
    reads_as g.S.Source.outside c.args.source.now c.loop-turn.source ⊥ _ c.loop-turn.invariant.calls (λ f. absurd f) (λ failed. cc)

pub returns-then-is_whole-clause-recordable : goal.returns-then-is_whole-clause-recordable
returns-then-is_whole-clause-recordable g c = λ over. c.in_ok-whole.ensures.recordable over (c.loop-turn.invariant.sound over)

pub returns-in-Err-clause-asks : goal.returns-in-Err-clause-asks
returns-in-Err-clause-asks g c = λ failed. c.next.ensures.asks (handed_on c.next.result _ c.in-Err.why (Bad fault.SourceFault) c.in-Err.is refl failed)
