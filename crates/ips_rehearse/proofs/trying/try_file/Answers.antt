use Rattle.std.proofs.Common.{[], sym, ◌∙◌, ap, subst, ◌≡◌, Some}
use Rattle.ips_outside.proofs.Placed.{look_placed}
use Rattle.ips_outside.specs.Change.{moded, with_entry_at}
use Rattle.ips_outside.specs.Image.{File, Image}
use Rattle.ips_rehearse.proofs.Passing.{pass_call, pass_then}
use Rattle.std.proofs.lemmas.Bool.{false_from_ne_true}
use Rattle.ips_text.specs.Ancestry.{covers}
use Rattle.ips_outside.specs.State.{State}
use Rattle.ips_outside.proofs.Trees.{on_ok_to}
use Rattle.ips_folder.specs.Calls.{IsSole}
use Rattle.ips_folder.proofs.Filled.{sole_placed, sole_mode, moded_placed}
use Rattle.ips_folder.proofs.Runs.{keeps_then}
use Rattle.ips_steps.proofs.Lists.{clash}
use Rattle.ips_rehearse.specs.Tried.{IsGone}
use Rattle.ips_rehearse.proofs.Trials.{wrote_in, moded_in, own_name, is_gone, on_ok}
use Rattle.ips_rehearse.proofs.trying.try_file.Goals as goal

pub set_mode-requires-clause-can : goal.set_mode-requires-clause-can
set_mode-requires-clause-can g c = λ told_now.
    let told = sym c.make_file.ensures.call.same_kind ∙ told_now in
    let p = c.args.path.now.bytes in
    sole_mode p (g.F.Source.outside.state c.make_file.new.self).held (subst (λ (s : State). IsSole s.held p) (sym (c.in_ok-make_file.ensures.done told)) (sole_placed p 384 [] (g.F.Source.outside.state c.args.folder.now).held))

pub returns-in_err-make_file-clause-any_moment : goal.returns-in_err-make_file-clause-any_moment
returns-in_err-make_file-clause-any_moment g c = λ told.
    let p = c.args.path.now.bytes in
    wrote_in g.F.Source.outside g.met.F.Source.sane (covers p) (covers p) p (λ q off. off) c.args.folder.now c.make_file.new.self _ c.make_file.result told c.make_file.ensures

pub returns-in_err-set_mode-clause-any_moment : goal.returns-in_err-set_mode-clause-any_moment
returns-in_err-set_mode-clause-any_moment g c = λ told.
    let o = g.F.Source.outside in
    let p = c.args.path.now.bytes in
    let own = subst (λ (s : State). IsSole s.held p) (sym (c.in_ok-make_file.ensures.done told)) (sole_placed p 384 [] (o.state c.args.folder.now).held) in
    keeps_then o (covers p) (covers p) c.args.folder.now c.make_file.new.self c.set_mode.new.self
    (wrote_in o g.met.F.Source.sane (covers p) (covers p) p (λ q off. off) c.args.folder.now c.make_file.new.self _ c.make_file.result told c.make_file.ensures)
    (moded_in o g.met.F.Source.sane (covers p) (covers p) p c.args.mode c.make_file.new.self c.set_mode.new.self (λ q off. false_from_ne_true _ (λ n. clash (covers p q) (own_name (o.state c.make_file.new.self).held p own q n) off)) c.set_mode.result (c.make_file.ensures.call.same_kind ∙ told) c.set_mode.ensures)

pub returns-clause-any_moment : goal.returns-clause-any_moment
returns-clause-any_moment g c = λ told.
    let o = g.F.Source.outside in
    let p = c.args.path.now.bytes in
    let told_1 = c.make_file.ensures.call.same_kind ∙ told in
    let own = subst (λ (s : State). IsSole s.held p) (sym (c.in_ok-make_file.ensures.done told)) (sole_placed p 384 [] (o.state c.args.folder.now).held) in
    keeps_then o (covers p) (covers p) c.args.folder.now c.set_mode.new.self c.remove.new.self
    (keeps_then o (covers p) (covers p) c.args.folder.now c.make_file.new.self c.set_mode.new.self
    (wrote_in o g.met.F.Source.sane (covers p) (covers p) p (λ q off. off) c.args.folder.now c.make_file.new.self _ c.make_file.result told c.make_file.ensures)
    (moded_in o g.met.F.Source.sane (covers p) (covers p) p c.args.mode c.make_file.new.self c.set_mode.new.self (λ q off. false_from_ne_true _ (λ n. clash (covers p q) (own_name (o.state c.make_file.new.self).held p own q n) off)) c.set_mode.result told_1 c.set_mode.ensures))
    (wrote_in o g.met.F.Source.sane (covers p) (covers p) p (λ q off. off) c.set_mode.new.self c.remove.new.self _ c.remove.result (c.set_mode.ensures.call.same_kind ∙ told_1) c.remove.ensures)

pub returns-clause-gone : goal.returns-clause-gone
returns-clause-gone g c = λ told.
    let o = g.F.Source.outside in
    let p = c.args.path.now.bytes in
    on_ok_to c.remove.result (IsGone p (o.state c.remove.new.self).held) (λ done. is_gone p (o.state c.set_mode.new.self).held (o.state c.remove.new.self).held (ap (λ (s : State). s.held) done))
    (c.remove.ensures.done (c.set_mode.ensures.call.same_kind ∙ c.make_file.ensures.call.same_kind ∙ told))

pub returns-clause-seen : goal.returns-clause-seen
returns-clause-seen g c = λ told.
    let o = g.F.Source.outside in
    let p = c.args.path.now.bytes in
    let t = (o.state c.args.folder.now).held in
    let made : (o.state c.make_file.new.self).held ≡ with_entry_at p (Some (File 384 [])) t = ap (λ (s : State). s.held) (c.in_ok-make_file.ensures.done told) in
    let given : (o.state c.set_mode.new.self).held ≡ with_entry_at p (Some (File c.args.mode [])) t =
    ap (λ (s : State). s.held) (c.in_ok-set_mode.ensures.done (c.make_file.ensures.call.same_kind ∙ told)) ∙ ap (moded c.args.mode p) made ∙ moded_placed p c.args.mode 384 [] t in
    on_ok _ (record {
      at = c.set_mode.new.self;
      since = pass_then o c.args.folder.now c.make_file.new.self c.set_mode.new.self (pass_call o c.args.folder.now c.make_file.new.self _ c.make_file.ensures.call) (pass_call o c.make_file.new.self c.set_mode.new.self _ c.set_mode.ensures.call);
      until = pass_call o c.set_mode.new.self c.remove.new.self _ c.remove.ensures.call;
      held = ap (λ (u : Image). u.look p) given ∙ look_placed p (Some (File c.args.mode [])) t;
    }) c.remove.result
