use Rattle.std.proofs.Common.{◌∙◌, ap}
use Rattle.ips_rehearse.proofs.Passing.{pass_call}
use Rattle.ips_text.specs.Ancestry.{covers}
use Rattle.ips_outside.proofs.Trees.{on_ok_to}
use Rattle.ips_outside.specs.State.{State}
use Rattle.ips_folder.proofs.Runs.{keeps_then}
use Rattle.ips_rehearse.specs.Tried.{IsGone}
use Rattle.ips_rehearse.proofs.Trials.{wrote_in, is_gone, on_ok}
use Rattle.ips_rehearse.proofs.trying.try_hard.Goals as goal

pub returns-in_err-make_hard-clause-any_moment : goal.returns-in_err-make_hard-clause-any_moment
returns-in_err-make_hard-clause-any_moment g c = λ told.
    let p = c.args.path.now.bytes in
    wrote_in g.F.Source.outside g.met.F.Source.sane (covers p) (covers p) p (λ q off. off) c.args.folder.now c.make_hard.new.self _ c.make_hard.result told c.make_hard.ensures

pub returns-clause-any_moment : goal.returns-clause-any_moment
returns-clause-any_moment g c = λ told.
    let o = g.F.Source.outside in
    let p = c.args.path.now.bytes in
    keeps_then o (covers p) (covers p) c.args.folder.now c.make_hard.new.self c.remove.new.self
    (wrote_in o g.met.F.Source.sane (covers p) (covers p) p (λ q off. off) c.args.folder.now c.make_hard.new.self _ c.make_hard.result told c.make_hard.ensures)
    (wrote_in o g.met.F.Source.sane (covers p) (covers p) p (λ q off. off) c.make_hard.new.self c.remove.new.self _ c.remove.result (c.make_hard.ensures.call.same_kind ∙ told) c.remove.ensures)

pub returns-clause-gone : goal.returns-clause-gone
returns-clause-gone g c = λ told.
    let o = g.F.Source.outside in
    let p = c.args.path.now.bytes in
    on_ok_to c.remove.result (IsGone p (o.state c.remove.new.self).held) (λ done. is_gone p (o.state c.make_hard.new.self).held (o.state c.remove.new.self).held (ap (λ (s : State). s.held) done))
    (c.remove.ensures.done (c.make_hard.ensures.call.same_kind ∙ told))

pub returns-clause-seen : goal.returns-clause-seen
returns-clause-seen g c = λ told.
    let o = g.F.Source.outside in
    on_ok _ (record {
      at = c.make_hard.new.self;
      since = pass_call o c.args.folder.now c.make_hard.new.self _ c.make_hard.ensures.call;
      until = pass_call o c.make_hard.new.self c.remove.new.self _ c.remove.ensures.call;
      held = ap (λ (s : State). s.held) (c.in_ok-make_hard.ensures.done told);
    }) c.remove.result
