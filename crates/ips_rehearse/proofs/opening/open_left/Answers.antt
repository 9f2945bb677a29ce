use Rattle.std.proofs.Common.{◌≡◌, false, List, ℕ, sym, ◌∙◌, ap, subst}
use Rattle.ips_text.specs.Ancestry.{covers}
use Rattle.ips_outside.specs.Image.{is_dir}
use Rattle.ips_steps.specs.Steps.{stage_name}
use Rattle.ips_rehearse.specs.Tried.{try_name, dir_name, inner_dir_name}
use Rattle.ips_rehearse.specs.Opening.{LeavesOpen}
use Rattle.ips_rehearse.proofs.Opens.{inner_other, inner_staged, no_dir_below, no_dir_open, open_before, open_behind, opens_beside, opens_staged, opens_then, stage_apart, staged, trials_apart, trials_staged, tried_in_trials, tried_staged}
use Rattle.ips_rehearse.proofs.opening.open_left.Goals as goal

pub returns-in_err-is_staged-clause-opens : goal.returns-in_err-is_staged-clause-opens
returns-in_err-is_staged-clause-opens g c =
    let o = g.F.Source.outside in
    let dirs = c.args.dirs.now in
    let first = opens_staged o dirs.stage.bytes stage_name c.args.folder.now c.open_dir.new.folder dirs.stage_is staged c.open_dir.ensures.opens in
    first

pub returns-then-not-is_staged-clause-opens : goal.returns-then-not-is_staged-clause-opens
returns-then-not-is_staged-clause-opens g c =
    let o = g.F.Source.outside in
    let dirs = c.args.dirs.now in
    let first = opens_staged o dirs.stage.bytes stage_name c.args.folder.now c.open_dir.new.folder dirs.stage_is staged c.open_dir.ensures.opens in
    first

pub returns-in_err-has_trials-clause-opens : goal.returns-in_err-has_trials-clause-opens
returns-in_err-has_trials-clause-opens g c =
    let o = g.F.Source.outside in
    let dirs = c.args.dirs.now in
    let first = opens_staged o dirs.stage.bytes stage_name c.args.folder.now c.open_dir.new.folder dirs.stage_is staged c.open_dir.ensures.opens in
    let second = opens_then o (covers stage_name) c.args.folder.now c.open_dir.new.folder c.open_dir-2.new.folder c.open_dir.ensures.same_kind first
    (opens_staged o dirs.trials.bytes try_name c.open_dir.new.folder c.open_dir-2.new.folder dirs.trials_is trials_staged c.open_dir-2.ensures.opens) in
    second

pub returns-then-not-has_trials-clause-opens : goal.returns-then-not-has_trials-clause-opens
returns-then-not-has_trials-clause-opens g c =
    let o = g.F.Source.outside in
    let dirs = c.args.dirs.now in
    let first = opens_staged o dirs.stage.bytes stage_name c.args.folder.now c.open_dir.new.folder dirs.stage_is staged c.open_dir.ensures.opens in
    let second = opens_then o (covers stage_name) c.args.folder.now c.open_dir.new.folder c.open_dir-2.new.folder c.open_dir.ensures.same_kind first
    (opens_staged o dirs.trials.bytes try_name c.open_dir.new.folder c.open_dir-2.new.folder dirs.trials_is trials_staged c.open_dir-2.ensures.opens) in
    second

pub returns-in_err-is_tried-clause-opens : goal.returns-in_err-is_tried-clause-opens
returns-in_err-is_tried-clause-opens g c =
    let o = g.F.Source.outside in
    let dirs = c.args.dirs.now in
    let first = opens_staged o dirs.stage.bytes stage_name c.args.folder.now c.open_dir.new.folder dirs.stage_is staged c.open_dir.ensures.opens in
    let second = opens_then o (covers stage_name) c.args.folder.now c.open_dir.new.folder c.open_dir-2.new.folder c.open_dir.ensures.same_kind first
    (opens_staged o dirs.trials.bytes try_name c.open_dir.new.folder c.open_dir-2.new.folder dirs.trials_is trials_staged c.open_dir-2.ensures.opens) in
    let third = opens_then o (covers stage_name) c.args.folder.now c.open_dir-2.new.folder c.open_dir-3.new.folder (c.open_dir-2.ensures.same_kind ∙ c.open_dir.ensures.same_kind) second
    (opens_staged o dirs.tried.bytes dir_name c.open_dir-2.new.folder c.open_dir-3.new.folder dirs.tried_is tried_staged c.open_dir-3.ensures.opens) in
    third

pub returns-then-not-is_tried-clause-opens : goal.returns-then-not-is_tried-clause-opens
returns-then-not-is_tried-clause-opens g c =
    let o = g.F.Source.outside in
    let dirs = c.args.dirs.now in
    let first = opens_staged o dirs.stage.bytes stage_name c.args.folder.now c.open_dir.new.folder dirs.stage_is staged c.open_dir.ensures.opens in
    let second = opens_then o (covers stage_name) c.args.folder.now c.open_dir.new.folder c.open_dir-2.new.folder c.open_dir.ensures.same_kind first
    (opens_staged o dirs.trials.bytes try_name c.open_dir.new.folder c.open_dir-2.new.folder dirs.trials_is trials_staged c.open_dir-2.ensures.opens) in
    let third = opens_then o (covers stage_name) c.args.folder.now c.open_dir-2.new.folder c.open_dir-3.new.folder (c.open_dir-2.ensures.same_kind ∙ c.open_dir.ensures.same_kind) second
    (opens_staged o dirs.tried.bytes dir_name c.open_dir-2.new.folder c.open_dir-3.new.folder dirs.tried_is tried_staged c.open_dir-3.ensures.opens) in
    third

pub returns-in_err-open_dir-clause-opens : goal.returns-in_err-open_dir-clause-opens
returns-in_err-open_dir-clause-opens g c =
    let o = g.F.Source.outside in
    let dirs = c.args.dirs.now in
    let first = opens_staged o dirs.stage.bytes stage_name c.args.folder.now c.open_dir.new.folder dirs.stage_is staged c.open_dir.ensures.opens in
    let second = opens_then o (covers stage_name) c.args.folder.now c.open_dir.new.folder c.open_dir-2.new.folder c.open_dir.ensures.same_kind first
    (opens_staged o dirs.trials.bytes try_name c.open_dir.new.folder c.open_dir-2.new.folder dirs.trials_is trials_staged c.open_dir-2.ensures.opens) in
    let third = opens_then o (covers stage_name) c.args.folder.now c.open_dir-2.new.folder c.open_dir-3.new.folder (c.open_dir-2.ensures.same_kind ∙ c.open_dir.ensures.same_kind) second
    (opens_staged o dirs.tried.bytes dir_name c.open_dir-2.new.folder c.open_dir-3.new.folder dirs.tried_is tried_staged c.open_dir-3.ensures.opens) in
    opens_then o (covers stage_name) c.args.folder.now c.open_dir-3.new.folder c.open_dir-4.new.folder (c.open_dir-3.ensures.same_kind ∙ c.open_dir-2.ensures.same_kind ∙ c.open_dir.ensures.same_kind) third
    (opens_staged o dirs.inner.bytes inner_dir_name c.open_dir-3.new.folder c.open_dir-4.new.folder dirs.inner_is inner_staged c.open_dir-4.ensures.opens)

pub returns-clause-opens : goal.returns-clause-opens
returns-clause-opens g c =
    let o = g.F.Source.outside in
    let dirs = c.args.dirs.now in
    let first = opens_staged o dirs.stage.bytes stage_name c.args.folder.now c.open_dir.new.folder dirs.stage_is staged c.open_dir.ensures.opens in
    let second = opens_then o (covers stage_name) c.args.folder.now c.open_dir.new.folder c.open_dir-2.new.folder c.open_dir.ensures.same_kind first
    (opens_staged o dirs.trials.bytes try_name c.open_dir.new.folder c.open_dir-2.new.folder dirs.trials_is trials_staged c.open_dir-2.ensures.opens) in
    let third = opens_then o (covers stage_name) c.args.folder.now c.open_dir-2.new.folder c.open_dir-3.new.folder (c.open_dir-2.ensures.same_kind ∙ c.open_dir.ensures.same_kind) second
    (opens_staged o dirs.tried.bytes dir_name c.open_dir-2.new.folder c.open_dir-3.new.folder dirs.tried_is tried_staged c.open_dir-3.ensures.opens) in
    opens_then o (covers stage_name) c.args.folder.now c.open_dir-3.new.folder c.open_dir-4.new.folder (c.open_dir-3.ensures.same_kind ∙ c.open_dir-2.ensures.same_kind ∙ c.open_dir.ensures.same_kind) third
    (opens_staged o dirs.inner.bytes inner_dir_name c.open_dir-3.new.folder c.open_dir-4.new.folder dirs.inner_is inner_staged c.open_dir-4.ensures.opens)

pub returns-then-not-is_staged-clause-open : goal.returns-then-not-is_staged-clause-open
returns-then-not-is_staged-clause-open g c = λ told.
    let o = g.F.Source.outside in
    let dirs = c.args.dirs.now in
    let t = (o.state c.args.folder.now).held in
    let none : is_dir (t.look stage_name) ≡ false = ap (λ (p : List ℕ). is_dir (t.look p)) (sym dirs.stage_is) ∙ sym (c.in_ok-is_staged.ensures.found told) ∙ c.if-not-is_staged.true in
    no_dir_open dir_name t (o.state c.open_dir.new.folder).held (no_dir_below t (g.met.F.Source.sane.formed c.args.folder.now told) stage_name dir_name tried_staged stage_apart none)

pub returns-then-not-has_trials-clause-open : goal.returns-then-not-has_trials-clause-open
returns-then-not-has_trials-clause-open g c = λ told.
    let o = g.F.Source.outside in
    let dirs = c.args.dirs.now in
    let told_1 = c.open_dir.ensures.same_kind ∙ told in
    let t = (o.state c.args.folder.now).held in
    let u = (o.state c.open_dir.new.folder).held in
    let v = (o.state c.open_dir-2.new.folder).held in
    let same = opens_beside o dirs.stage.bytes stage_name c.args.folder.now c.open_dir.new.folder dirs.stage_is stage_apart told c.open_dir.ensures.opens in
    let none : is_dir (u.look try_name) ≡ false = ap (λ (p : List ℕ). is_dir (u.look p)) (sym dirs.trials_is) ∙ sym (c.in_ok-has_trials.ensures.found told_1) ∙ c.if-not-has_trials.true in
    open_behind dir_name t u v same (no_dir_open dir_name u v (no_dir_below u (g.met.F.Source.sane.formed c.open_dir.new.folder told_1) try_name dir_name tried_in_trials trials_apart none))

pub returns-then-not-is_tried-clause-open : goal.returns-then-not-is_tried-clause-open
returns-then-not-is_tried-clause-open g c = λ told.
    let o = g.F.Source.outside in
    let dirs = c.args.dirs.now in
    let told_1 = c.open_dir.ensures.same_kind ∙ told in
    let t = (o.state c.args.folder.now).held in
    let u = (o.state c.open_dir.new.folder).held in
    let v = (o.state c.open_dir-2.new.folder).held in
    let same = opens_beside o dirs.stage.bytes stage_name c.args.folder.now c.open_dir.new.folder dirs.stage_is stage_apart told c.open_dir.ensures.opens in
    let told_2 = c.open_dir-2.ensures.same_kind ∙ told_1 in
    let w = (o.state c.open_dir-3.new.folder).held in
    let same_2 = opens_beside o dirs.trials.bytes try_name c.open_dir.new.folder c.open_dir-2.new.folder dirs.trials_is trials_apart told_1 c.open_dir-2.ensures.opens in
    let none : is_dir (v.look dir_name) ≡ false = ap (λ (p : List ℕ). is_dir (v.look p)) (sym dirs.tried_is) ∙ sym (c.in_ok-is_tried.ensures.found told_2) ∙ c.if-not-is_tried.true in
    open_behind dir_name t u w same (open_behind dir_name u v w same_2 (no_dir_open dir_name v w none))

pub returns-clause-open : goal.returns-clause-open
returns-clause-open g c = λ told.
    let o = g.F.Source.outside in
    let dirs = c.args.dirs.now in
    let told_1 = c.open_dir.ensures.same_kind ∙ told in
    let t = (o.state c.args.folder.now).held in
    let u = (o.state c.open_dir.new.folder).held in
    let v = (o.state c.open_dir-2.new.folder).held in
    let same = opens_beside o dirs.stage.bytes stage_name c.args.folder.now c.open_dir.new.folder dirs.stage_is stage_apart told c.open_dir.ensures.opens in
    let told_2 = c.open_dir-2.ensures.same_kind ∙ told_1 in
    let w = (o.state c.open_dir-3.new.folder).held in
    let same_2 = opens_beside o dirs.trials.bytes try_name c.open_dir.new.folder c.open_dir-2.new.folder dirs.trials_is trials_apart told_1 c.open_dir-2.ensures.opens in
    let told_3 = c.open_dir-3.ensures.same_kind ∙ told_2 in
    let x = (o.state c.open_dir-4.new.folder).held in
    let same_4 = opens_beside o dirs.inner.bytes inner_dir_name c.open_dir-3.new.folder c.open_dir-4.new.folder dirs.inner_is inner_other told_3 c.open_dir-4.ensures.opens in
    let opened : LeavesOpen dir_name v w = subst (λ (p : List ℕ). LeavesOpen p v w) dirs.tried_is (c.in_ok-is_tried.ensures.open told_2) in
    open_behind dir_name t u x same (open_behind dir_name u v x same_2 (open_before dir_name v w x opened same_4))
