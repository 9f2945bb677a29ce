use Rattle.std.proofs.Common.{◌≡◌, ◌≤◌, true, ◌&&◌, take, sym, ◌∙◌, ap, subst, arith}
use Rattle.std.specs.List.{list_any}
use Rattle.std.proofs.lemmas.Bool.{not_from_false}
use Rattle.std.proofs.lemmas.List.{take_all}
use Rattle.ips_text.specs.Ancestry.{covers}
use Rattle.ips_text.specs.Kept.{Kept}
use Rattle.ips_outside.specs.Children.{path_bytes}
use Rattle.ips_outside.specs.State.{State, nowhere}
use Rattle.ips_outside.proofs.Reading.{answered}
use Rattle.ips_folder.specs.Calls.{ChangesOnly}
use Rattle.ips_commit.specs.Pending.{is_other, mark_names}
use Rattle.ips_commit.proofs.Numbered.{is_spare, other_bytes, spare_gone, spare_off, kept_stays, no_others}
use Rattle.ips_commit.proofs.Swept.{removed_none}
use Rattle.ips_contents.proofs.Wrote.{wrote_then}
use Rattle.ips_commit.proofs.sweeping.keep_first.Goals as goal
use Rattle.ips_commit.proofs.sweeping.keep_first.Goals.{then-not-is_among+in_ok-remove, else-not-is_among}

pub returns-in_err-remove-clause-any_moment : goal.returns-in_err-remove-clause-any_moment
returns-in_err-remove-clause-any_moment g c = λ told.
    let kept = mark_names c.args.count in
    let m = c.mark-item.result in
    let spare = not_from_false _ (sym c.is_among.ensures ∙ c.if-not-is_among.true) in
    wrote_then g.F.Source.outside g.met.F.Source.sane (is_other kept (path_bytes c.args.marks.now)) m.bytes (spare_off kept c.args.marks.now c.loop-mark.mark-index m c.loop-mark-test.true c.mark-item.is spare)
    c.args.folder.now c.loop-mark.folder c.remove.new.self _ c.remove.result (c.loop-mark.invariant.moments told) (c.loop-mark.invariant.kind ∙ told) c.remove.ensures

pub loop-mark-preserved : goal.loop-mark-preserved
loop-mark-preserved g c =
    let o = g.F.Source.outside in
    let old = c.args.folder.now in
    let kept = mark_names c.args.count in
    let marks = c.args.marks.now in
    let m = c.mark-item.result in
    let at = c.loop-mark.folder in
    let inv = c.loop-mark.invariant in
    elim c.if-not-is_among.branch [
      | then-not-is_among+in_ok-remove w ↦
          let spare = not_from_false _ (sym c.is_among.ensures ∙ w.if-not-is_among.true) in
          let new = w.remove.new.self in
          let more : o.changes old ≤ o.changes new = omega (arith, inv.changes, w.remove.ensures.one_made.later) in
          let run : o.tells old ≡ true → ChangesOnly o (is_other kept (path_bytes marks)) nowhere old new =
          λ told. wrote_then o g.met.F.Source.sane (is_other kept (path_bytes marks)) m.bytes (spare_off kept marks c.loop-mark.mark-index m c.loop-mark-test.true c.mark-item.is spare) old at new _ w.remove.result (inv.moments told) (inv.kind ∙ told) w.remove.ensures in
          record {
            kind = ap o.tells w.folder-is ∙ w.remove.ensures.call.same_kind ∙ inv.kind;
            faults = ap o.faults w.folder-is ∙ w.remove.ensures.call.cause.steady (answered w.remove.result _ w.in_ok-remove.was) ∙ inv.faults;
            changes = subst (λ f. o.changes old ≤ o.changes f) (sym w.folder-is) more;
            gone = λ told q now. ap (λ f. (o.state f).held.look q) w.folder-is
                ∙ spare_gone kept marks c.loop-mark.mark-index m c.loop-mark-test.true c.mark-item.is (o.state at).held (o.state new).held q (ap (λ (s : State). s.held) (w.in_ok-remove.ensures.done (inv.kind ∙ told))) (inv.gone told q) now;
            nothing_new = λ told q none. ap (λ f. (o.state f).held.look q) w.folder-is
                ∙ ap (λ (s : State). s.held.look q) (w.in_ok-remove.ensures.done (inv.kind ∙ told)) ∙ removed_none m.bytes q (o.state at).held (inv.nothing_new told q none);
            moments = λ told. subst (λ f. ChangesOnly o (is_other kept (path_bytes marks)) nowhere old f) (sym w.folder-is) (run told);
          }
      | else-not-is_among w ↦ record {
        kind = ap o.tells w.folder-is ∙ inv.kind;
        faults = ap o.faults w.folder-is ∙ inv.faults;
        changes = subst (λ f. o.changes old ≤ o.changes f) (sym w.folder-is) inv.changes;
        gone = λ told q now. ap (λ f. (o.state f).held.look q) w.folder-is
            ∙ kept_stays kept marks c.loop-mark.mark-index m c.loop-mark-test.true c.mark-item.is (o.state at).held q (sym c.is_among.ensures ∙ w.if-not-is_among.false) (inv.gone told q) now;
        nothing_new = λ told q none. ap (λ f. (o.state f).held.look q) w.folder-is ∙ inv.nothing_new told q none;
        moments = λ told. subst (λ f. ChangesOnly o (is_other kept (path_bytes marks)) nowhere old f) (sym w.folder-is) (inv.moments told);
      }
    ]

pub returns-clause-others : goal.returns-clause-others
returns-clause-others g c = λ told others.
    let o = g.F.Source.outside in
    let inv = c.loop-mark.invariant in
    let all : take c.loop-mark.mark-index c.args.marks.now ≡ c.args.marks.now = take_all c.loop-mark.mark-index c.args.marks.now (omega arith) in
    let safe = c.in_ok-sync.ensures.done (inv.kind ∙ told) in
    no_others c.args.count (path_bytes c.args.marks.now) (o.state c.args.folder.now).held (o.state c.sync.new.self).held others
    (λ q is. ap (λ (s : State). s.held.look q) safe ∙ inv.gone told q (ap (list_any (λ (k : Kept). is_spare (mark_names c.args.count) k.bytes && covers k.bytes q)) all ∙ sym (other_bytes (mark_names c.args.count) c.args.marks.now q) ∙ is))
    (λ q none. ap (λ (s : State). s.held.look q) safe ∙ inv.nothing_new told q none)
