use Rattle.std.proofs.Common.{inl, inr, None, ◌∙◌, ap}
use Rattle.ips_outside.specs.State.{nowhere}
use Rattle.ips_folder.proofs.Runs.{keeps_then, keeps_wider}
use Rattle.ips_outside.specs.Image.{Image}
use Rattle.ips_outside.proofs.Placed.{look_placed}
use Rattle.ips_steps.specs.Private.{gate_name, mark_front, begins, is_private}
use Rattle.ips_commit.specs.Pending.{is_swept, mark_names}
use Rattle.ips_commit.proofs.OwnNames.{marks_swept}
use Rattle.ips_commit.proofs.Owing.{closing_owed, closed_owed, done_of, swept_twice, gate_left, shut_left, at_gate, at_swept}
use Rattle.ips_commit.proofs.GateOpens.{on_err}
use Rattle.ips_commit.proofs.gate.finish.Goals as goal

pub returns-in_err-close-clause-owed : goal.returns-in_err-close-clause-owed
returns-in_err-close-clause-owed g c = λ told clean steps count b a due ready seen.
    closing_owed g.F.Source.outside g.met.F.Source.sane steps count a c.args.folder.now c.close.new.folder told ready clean (c.close.ensures.any_moment told) seen b due

pub returns-in_err-unmark-clause-owed : goal.returns-in_err-unmark-clause-owed
returns-in_err-unmark-clause-owed g c = λ told clean steps count b a due ready seen.
    let o = g.F.Source.outside in
    let told_1 = c.close.ensures.same_kind ∙ told in
    closed_owed o g.met.F.Source.sane steps count a c.args.folder.now c.close.new.folder c.unmark.new.folder told ready clean (c.close.ensures.any_moment told) seen (c.in_ok-close.ensures.closed told) (c.in_ok-close.ensures.safe told)
    (keeps_wider o (begins mark_front) nowhere is_swept nowhere c.close.new.folder c.unmark.new.folder marks_swept (λ q l. l) (c.unmark.ensures.any_moment told_1)) b due

pub returns-in_err-clear-clause-owed : goal.returns-in_err-clear-clause-owed
returns-in_err-clear-clause-owed g c = λ told clean steps count b a due ready seen.
    let o = g.F.Source.outside in
    let told_1 = c.close.ensures.same_kind ∙ told in
    closed_owed o g.met.F.Source.sane steps count a c.args.folder.now c.close.new.folder c.clear.new.folder told ready clean (c.close.ensures.any_moment told) seen (c.in_ok-close.ensures.closed told) (c.in_ok-close.ensures.safe told)
    (keeps_then o is_swept nowhere c.close.new.folder c.unmark.new.folder c.clear.new.folder
    (keeps_wider o (begins mark_front) nowhere is_swept nowhere c.close.new.folder c.unmark.new.folder marks_swept (λ q l. l) (c.unmark.ensures.any_moment told_1))
    (c.clear.ensures.any_moment (c.unmark.ensures.same_kind ∙ told_1))) b due

pub returns-clause-owed : goal.returns-clause-owed
returns-clause-owed g c = λ told clean steps count b a due ready seen.
    let o = g.F.Source.outside in
    let told_1 = c.close.ensures.same_kind ∙ told in
    closed_owed o g.met.F.Source.sane steps count a c.args.folder.now c.close.new.folder c.clear.new.folder told ready clean (c.close.ensures.any_moment told) seen (c.in_ok-close.ensures.closed told) (c.in_ok-close.ensures.safe told)
    (keeps_then o is_swept nowhere c.close.new.folder c.unmark.new.folder c.clear.new.folder
    (keeps_wider o (begins mark_front) nowhere is_swept nowhere c.close.new.folder c.unmark.new.folder marks_swept (λ q l. l) (c.unmark.ensures.any_moment told_1))
    (c.clear.ensures.any_moment (c.unmark.ensures.same_kind ∙ told_1))) b due

pub returns-clause-done : goal.returns-clause-done
returns-clause-done g c = λ told others.
    let o = g.F.Source.outside in
    let told_1 = c.close.ensures.same_kind ∙ told in
    let told_2 = c.unmark.ensures.same_kind ∙ told_1 in
    let u = (o.state c.close.new.folder).held in
    let v = (o.state c.clear.new.folder).held in
    let run = keeps_then o is_swept nowhere c.close.new.folder c.unmark.new.folder c.clear.new.folder
    (keeps_wider o (begins mark_front) nowhere is_swept nowhere c.close.new.folder c.unmark.new.folder marks_swept (λ q l. l) (c.unmark.ensures.any_moment told_1)) (c.clear.ensures.any_moment told_2) in
    let done = done_of (mark_names c.args.marks) (o.state c.args.folder.now).held u v (g.met.F.Source.sane.formed c.clear.new.folder (c.clear.ensures.same_kind ∙ told_2)) (c.in_ok-close.ensures.closed told) others
    (swept_twice (mark_names c.args.marks) _ u (o.state c.unmark.new.folder).held v (c.in_ok-unmark.ensures.gone told_1) (c.in_ok-unmark.ensures.nothing_new told_1) (c.in_ok-clear.ensures.swept told_2)) run.now.agrees in
    record { seen = done.0; bare = done.1; safe = c.in_ok-clear.ensures.safe told_2 }

pub returns-in_err-close-clause-left : goal.returns-in_err-close-clause-left
returns-in_err-close-clause-left g c = λ told clean count are.
    on_err c.from_residual.result _ (λ x may. inr (gate_left g.F.Source.outside g.met.F.Source.sane c.args.folder.now c.close.new.folder count (c.close.ensures.any_moment told) clean are x may))

pub returns-in_err-unmark-clause-left : goal.returns-in_err-unmark-clause-left
returns-in_err-unmark-clause-left g c = λ told clean count are.
    let o = g.F.Source.outside in
    let told_1 = c.close.ensures.same_kind ∙ told in
    on_err c.from_residual-in_err-unmark.result _ (λ x may. inl (shut_left o g.met.F.Source.sane c.close.new.folder c.unmark.new.folder
    (keeps_wider o (begins mark_front) nowhere is_swept nowhere c.close.new.folder c.unmark.new.folder marks_swept (λ q l. l) (c.unmark.ensures.any_moment told_1)) (c.in_ok-close.ensures.safe told)
    (ap (λ (w : Image). w.look gate_name) (c.in_ok-close.ensures.closed told) ∙ look_placed gate_name None (o.state c.args.folder.now).held) x may))

pub returns-in_err-clear-clause-left : goal.returns-in_err-clear-clause-left
returns-in_err-clear-clause-left g c = λ told clean count are.
    let o = g.F.Source.outside in
    let told_1 = c.close.ensures.same_kind ∙ told in
    on_err c.from_residual-in_err-clear.result _ (λ x may. inl (shut_left o g.met.F.Source.sane c.close.new.folder c.clear.new.folder
    (keeps_then o is_swept nowhere c.close.new.folder c.unmark.new.folder c.clear.new.folder
    (keeps_wider o (begins mark_front) nowhere is_swept nowhere c.close.new.folder c.unmark.new.folder marks_swept (λ q l. l) (c.unmark.ensures.any_moment told_1)) (c.clear.ensures.any_moment (c.unmark.ensures.same_kind ∙ told_1))) (c.in_ok-close.ensures.safe told)
    (ap (λ (w : Image). w.look gate_name) (c.in_ok-close.ensures.closed told) ∙ look_placed gate_name None (o.state c.args.folder.now).held) x may))

pub returns-in_err-close-clause-any_moment : goal.returns-in_err-close-clause-any_moment
returns-in_err-close-clause-any_moment g c = λ told.
    at_gate g.F.Source.outside g.met.F.Source.sane c.args.folder.now c.close.new.folder (c.close.ensures.any_moment told)

pub returns-in_err-unmark-clause-any_moment : goal.returns-in_err-unmark-clause-any_moment
returns-in_err-unmark-clause-any_moment g c = λ told.
    let o = g.F.Source.outside in
    keeps_then o is_private nowhere c.args.folder.now c.close.new.folder c.unmark.new.folder (at_gate o g.met.F.Source.sane c.args.folder.now c.close.new.folder (c.close.ensures.any_moment told))
    (at_swept o g.met.F.Source.sane c.close.new.folder c.unmark.new.folder
    (keeps_wider o (begins mark_front) nowhere is_swept nowhere c.close.new.folder c.unmark.new.folder marks_swept (λ q l. l) (c.unmark.ensures.any_moment (c.close.ensures.same_kind ∙ told))))

pub returns-in_err-clear-clause-any_moment : goal.returns-in_err-clear-clause-any_moment
returns-in_err-clear-clause-any_moment g c = λ told.
    let o = g.F.Source.outside in
    let told_1 = c.close.ensures.same_kind ∙ told in
    keeps_then o is_private nowhere c.args.folder.now c.close.new.folder c.clear.new.folder (at_gate o g.met.F.Source.sane c.args.folder.now c.close.new.folder (c.close.ensures.any_moment told))
    (at_swept o g.met.F.Source.sane c.close.new.folder c.clear.new.folder
    (keeps_then o is_swept nowhere c.close.new.folder c.unmark.new.folder c.clear.new.folder
    (keeps_wider o (begins mark_front) nowhere is_swept nowhere c.close.new.folder c.unmark.new.folder marks_swept (λ q l. l) (c.unmark.ensures.any_moment told_1))
    (c.clear.ensures.any_moment (c.unmark.ensures.same_kind ∙ told_1))))

pub returns-clause-any_moment : goal.returns-clause-any_moment
returns-clause-any_moment g c = λ told.
    let o = g.F.Source.outside in
    let told_1 = c.close.ensures.same_kind ∙ told in
    keeps_then o is_private nowhere c.args.folder.now c.close.new.folder c.clear.new.folder (at_gate o g.met.F.Source.sane c.args.folder.now c.close.new.folder (c.close.ensures.any_moment told))
    (at_swept o g.met.F.Source.sane c.close.new.folder c.clear.new.folder
    (keeps_then o is_swept nowhere c.close.new.folder c.unmark.new.folder c.clear.new.folder
    (keeps_wider o (begins mark_front) nowhere is_swept nowhere c.close.new.folder c.unmark.new.folder marks_swept (λ q l. l) (c.unmark.ensures.any_moment told_1))
    (c.clear.ensures.any_moment (c.unmark.ensures.same_kind ∙ told_1))))
