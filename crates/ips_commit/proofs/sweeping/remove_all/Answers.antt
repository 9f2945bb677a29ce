use Rattle.std.proofs.Common.{refl, ◌∙◌, ap, arith}
use Rattle.std.specs.List.{list_any}
use Rattle.std.proofs.lemmas.List.{take_all}
use Rattle.ips_text.specs.Ancestry.{covers}
use Rattle.ips_text.specs.Kept.{Kept}
use Rattle.ips_outside.specs.State.{State, nowhere}
use Rattle.ips_folder.proofs.Runs.{begun}
use Rattle.ips_steps.specs.Private.{mark_front, begins}
use Rattle.ips_outside.proofs.Reading.{answered}
use Rattle.ips_rehearse.proofs.Passing.{pass_call, pass_none, pass_then}
use Rattle.ips_commit.proofs.Swept.{off_mark, own_at, gone_more, all_bytes, removed_none}
use Rattle.ips_contents.proofs.Wrote.{wrote_then}
use Rattle.ips_commit.proofs.sweeping.remove_all.Goals as goal

pub loop-mark-init : goal.loop-mark-init
loop-mark-init g c = record {
  kind = refl;
  faults = refl;
  changes = omega arith;
  gone = λ told q is. cc;
  nothing_new = λ told q none. none;
  moments = λ told. begun g.F.Source.outside (begins mark_front) nowhere c.args.folder.now (g.met.F.Source.sane.only_now c.args.folder.now);
  passed = pass_none g.F.Source.outside c.args.folder.now;
}

pub returns-in_err-remove-clause-any_moment : goal.returns-in_err-remove-clause-any_moment
returns-in_err-remove-clause-any_moment g c = λ told.
    let p = c.mark-item.result.bytes in
    let own = own_at c.args.marks.now c.loop-mark.mark-index c.mark-item.result c.requires.own c.loop-mark-test.true c.mark-item.is in
    wrote_then g.F.Source.outside g.met.F.Source.sane (begins mark_front) p (off_mark p own) c.args.folder.now c.loop-mark.folder c.remove.new.self _ c.remove.result
    (c.loop-mark.invariant.moments told) (c.loop-mark.invariant.kind ∙ told) c.remove.ensures

pub loop-mark-preserved : goal.loop-mark-preserved
loop-mark-preserved g c =
    let p = c.mark-item.result.bytes in
    let own = own_at c.args.marks.now c.loop-mark.mark-index c.mark-item.result c.requires.own c.loop-mark-test.true c.mark-item.is in
    record {
      kind = c.remove.ensures.call.same_kind ∙ c.loop-mark.invariant.kind;
      faults = c.remove.ensures.call.cause.steady (answered c.remove.result _ c.in_ok-remove.was) ∙ c.loop-mark.invariant.faults;
      changes = omega (arith, c.loop-mark.invariant.changes, c.remove.ensures.one_made.later);
      gone = λ told q. gone_more c.args.marks.now c.loop-mark.mark-index c.mark-item.result (g.F.Source.outside.state c.loop-mark.folder).held (g.F.Source.outside.state c.remove.new.self).held q
          c.loop-mark-test.true c.mark-item.is (ap (λ (s : State). s.held) (c.in_ok-remove.ensures.done (c.loop-mark.invariant.kind ∙ told))) (c.loop-mark.invariant.gone told q);
      nothing_new = λ told q none. ap (λ (s : State). s.held.look q) (c.in_ok-remove.ensures.done (c.loop-mark.invariant.kind ∙ told))
          ∙ removed_none p q (g.F.Source.outside.state c.loop-mark.folder).held (c.loop-mark.invariant.nothing_new told q none);
      moments = λ told. wrote_then g.F.Source.outside g.met.F.Source.sane (begins mark_front) p (off_mark p own) c.args.folder.now c.loop-mark.folder c.remove.new.self _ c.remove.result
          (c.loop-mark.invariant.moments told) (c.loop-mark.invariant.kind ∙ told) c.remove.ensures;
      passed = pass_then g.F.Source.outside c.args.folder.now c.loop-mark.folder c.remove.new.self c.loop-mark.invariant.passed (pass_call g.F.Source.outside c.loop-mark.folder c.remove.new.self _ c.remove.ensures.call);
    }

pub returns-clause-gone : goal.returns-clause-gone
returns-clause-gone g c = λ told q is.
    c.loop-mark.invariant.gone told q (ap (list_any (λ (k : Kept). covers k.bytes q)) (take_all c.loop-mark.mark-index c.args.marks.now (omega arith)) ∙ all_bytes c.args.marks.now q is)

pub returns-in_err-remove-clause-changes : goal.returns-in_err-remove-clause-changes
returns-in_err-remove-clause-changes g c = omega (arith, c.loop-mark.invariant.changes, c.remove.ensures.one_made.later)

pub returns-clause-changes : goal.returns-clause-changes
returns-clause-changes g c = c.loop-mark.invariant.changes
