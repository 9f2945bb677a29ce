use Rattle.std.proofs.Common.{◌+◌, ◌/◌, ◌∙◌, ap, arith}
use Rattle.ips_outside.specs.State.{State}
use Rattle.ips_outside.proofs.Reading.{answered, reads_none, reads_then}
use Rattle.ips_commit.proofs.Places.{stand_more, counted_here, counted_all}
use Rattle.ips_commit.proofs.placing.count_marks.Goals as goal

pub loop-count-init : goal.loop-count-init
loop-count-init g c = record {
  reads = reads_none g.F.Source.outside c.args.folder.now ⊥ (λ f. f);
  stand = λ told i lt. absurd (omega (arith, lt));
}

pub loop-count-preserved : goal.loop-count-preserved
loop-count-preserved g c =
    let o = g.F.Source.outside in
    let inv = c.loop-count.invariant in
    record {
      reads = reads_then o c.args.folder.now c.loop-count.folder c.stands.new.folder _ ⊥ inv.reads c.stands.ensures.reads (answered c.stands.result _ c.in-Ok.is) (λ f. absurd f);
      stand = λ told. stand_more (o.state c.args.folder.now).held (o.state c.loop-count.folder).held c.loop-count.count c.in_ok-mark.mark.bytes c.in-Ok.is_there (ap (λ (s : State). s.held) inv.reads.kept) c.in_ok-mark.ensures
          (c.in-Ok.ensures.found (inv.reads.call.same_kind ∙ told)) c.if-not-is_there.false (inv.stand told);
    }

pub returns-then-not-is_there-clause-counted : goal.returns-then-not-is_there-clause-counted
returns-then-not-is_there-clause-counted g c = λ told.
    let o = g.F.Source.outside in
    let inv = c.loop-count.invariant in
    counted_here (o.state c.args.folder.now).held (o.state c.loop-count.folder).held c.args.total c.loop-count.count c.in_ok-mark.mark.bytes c.in-Ok.is_there (ap (λ (s : State). s.held) inv.reads.kept) c.in_ok-mark.ensures
    (c.in-Ok.ensures.found (inv.reads.call.same_kind ∙ told)) c.if-not-is_there.true (inv.stand told)

pub returns-clause-counted : goal.returns-clause-counted
returns-clause-counted g c = λ told.
    counted_all (g.F.Source.outside.state c.args.folder.now).held c.args.total c.loop-count.count (c.args.total / 1000 + 1) (omega arith) (omega arith) (c.loop-count.invariant.stand told)
