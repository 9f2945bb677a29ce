use Rattle.std.proofs.Common.{◌≡◌, ℕ, List, sym, ◌∙◌, ap, subst, arith}
use Rattle.std.specs.List.{All}
use Rattle.std.proofs.lemmas.List.{take_all}
use Rattle.ips_text.specs.Ancestry.{covers}
use Rattle.ips_outside.specs.Children.{is_child}
use Rattle.ips_outside.specs.Image.{Image}
use Rattle.ips_outside.specs.State.{State}
use Rattle.ips_outside.specs.Tearing.{in_set}
use Rattle.ips_outside.proofs.Reading.{reads_none, reads_then}
use Rattle.ips_outside.proofs.Trees.{on_ok_to}
use Rattle.ips_steps.specs.declared.step.Step.{Step}
use Rattle.ips_rehearse.specs.Going.{IsFound, IsMet}
use Rattle.ips_rehearse.specs.Tried.{IsFailure}
use Rattle.ips_rehearse.proofs.Going.{AllMet, met_found, met_more, met_off}
use Rattle.ips_rehearse.proofs.Keys.{keeps_none, keeps_then}
use Rattle.ips_rehearse.proofs.standing.add_going.Goals as goal

pub loop-step-init : goal.loop-step-init
loop-step-init g c = record {
  kept = keeps_none c.args.modes.now.has;
  reads = reads_none g.F.Source.outside c.args.folder.now ⊥ (λ f. f);
  found = λ told k d lt. absurd (omega (arith, lt));
}

pub loop-step-preserved : goal.loop-step-preserved
loop-step-preserved g c =
    let o = g.F.Source.outside in
    let inv = c.loop-step.invariant in
    let t = (o.state c.args.folder.now).held in
    let same : (o.state c.loop-step.folder).held ≡ t = ap (λ (s : State). s.held) inv.reads.kept in
    record {
      kept = keeps_then c.args.modes.now.has c.loop-step.modes.has c.add_at.new.modes.has inv.kept c.add_at.ensures.kept;
      reads = reads_then o c.args.folder.now c.loop-step.folder c.add_at.new.folder (IsFailure c.add_at.result) ⊥ inv.reads c.add_at.ensures.reads (λ f. subst (λ (r : _). IsFailure r) c.in_ok-add_at.was f) (λ f. absurd f);
      found = λ told. met_more t (in_set c.args.made.now) c.loop-step.modes.has c.add_at.new.modes.has c.loop-step.left.items c.add_at.new.left.items c.add_at.ensures.kept c.in_ok-add_at.ensures.left
          c.args.steps.now c.loop-step.step-index c.step-item.result c.loop-step-test.true c.step-item.is (inv.found told)
          (λ d may up. subst (λ (u : Image). IsMet u c.add_at.new.modes.has c.add_at.new.left.items d) same
          (c.in_ok-add_at.ensures.found (inv.reads.call.same_kind ∙ told) d (ap (λ (p : List ℕ). covers p d) c.path.ensures ∙ up)));
    }

pub loop-step-preserved-then-not-may_take : goal.loop-step-preserved-then-not-may_take
loop-step-preserved-then-not-may_take g c =
    let inv = c.loop-step.invariant in
    let t = (g.F.Source.outside.state c.args.folder.now).held in
    record {
      kept = inv.kept;
      reads = inv.reads;
      found = λ told. met_more t (in_set c.args.made.now) c.loop-step.modes.has c.loop-step.modes.has c.loop-step.left.items c.loop-step.left.items (keeps_none c.loop-step.modes.has) (λ d under. under)
          c.args.steps.now c.loop-step.step-index c.step-item.result c.loop-step-test.true c.step-item.is (inv.found told)
          (met_off t (in_set c.args.made.now) c.loop-step.modes.has c.loop-step.left.items c.step-item.result (sym c.may_take.ensures ∙ c.if-not-may_take.true));
    }

pub returns-in_err-add_at-clause-kept : goal.returns-in_err-add_at-clause-kept
returns-in_err-add_at-clause-kept g c = keeps_then c.args.modes.now.has c.loop-step.modes.has c.add_at.new.modes.has c.loop-step.invariant.kept c.add_at.ensures.kept

pub returns-clause-kept : goal.returns-clause-kept
returns-clause-kept g c = keeps_then c.args.modes.now.has c.loop-step.modes.has c.walk.new.modes.has c.loop-step.invariant.kept c.walk.ensures.kept

pub returns-clause-found : goal.returns-clause-found
returns-clause-found g c = λ told.
    let o = g.F.Source.outside in
    let inv = c.loop-step.invariant in
    let t = (o.state c.args.folder.now).held in
    let made = in_set c.args.made.now in
    let same : (o.state c.loop-step.folder).held ≡ t = ap (λ (s : State). s.held) inv.reads.kept in
    on_ok_to c.walk.result (All (IsFound t made c.walk.new.modes.has) c.args.steps.now)
    (λ walked. met_found t made c.loop-step.modes.has c.walk.new.modes.has c.loop-step.left.items c.walk.ensures.kept
    (λ d m f q under there child. walked d m f q under (ap (λ (u : Image). u.look d) same ∙ there) (ap (λ (u : Image). is_child u d q) same ∙ child)) c.args.steps.now
    (subst (λ (l : List Step). All (AllMet t made c.loop-step.modes.has c.loop-step.left.items) l) (take_all c.loop-step.step-index c.args.steps.now (omega (arith, c.loop-step-test.false))) (inv.found told)))
    (c.walk.ensures.found (inv.reads.call.same_kind ∙ told))
