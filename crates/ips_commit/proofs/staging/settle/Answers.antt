use Rattle.std.proofs.Common.{◌≡◌, inr, List, sym, ◌∙◌, ap, subst}
use Rattle.ips_text.specs.Kept.{Kept}
use Rattle.ips_outside.specs.Image.{Image}
use Rattle.ips_outside.specs.State.{State}
use Rattle.ips_outside.specs.Children.{path_bytes}
use Rattle.ips_commit.specs.Pending.{HasNoOtherMark, IsSwept}
use Rattle.ips_rehearse.proofs.Passing.{pass_call, pass_then}
use Rattle.ips_commit.proofs.Swept.{opened_behind}
use Rattle.ips_commit.proofs.Staged.{synced_swept, swept_now, cleared_by}
use Rattle.ips_commit.proofs.Unready.{same_until, no_more, if_starved}
use Rattle.ips_commit.proofs.GateOpens.{on_err}
use Rattle.ips_commit.proofs.staging.settle.Goals as goal

pub returns-clause-any_moment : goal.returns-clause-any_moment
returns-clause-any_moment g c = λ told.
    let o = g.F.Source.outside in
    let told_1 = c.sync.ensures.call.same_kind ∙ told in
    synced_swept o g.met.F.Source.sane c.args.folder.now c.sync.new.self c.sync.ensures.call.time (c.in-Ok.ensures.done told) c.marks.new.folder _ c.marks.ensures.reads c.sweep_left.new.folder
    (c.sweep_left.ensures.any_moment (c.marks.ensures.reads.call.same_kind ∙ told_1))

pub returns-clause-within : goal.returns-clause-within
returns-clause-within g c = λ told.
    let o = g.F.Source.outside in
    let told_1 = c.sync.ensures.call.same_kind ∙ told in
    swept_now o g.met.F.Source.sane c.args.folder.now c.sync.new.self c.sync.ensures.call.time (c.in-Ok.ensures.done told) c.marks.new.folder _ c.marks.ensures.reads c.sweep_left.new.folder
    (c.sweep_left.ensures.any_moment (c.marks.ensures.reads.call.same_kind ∙ told_1))

pub returns-clause-cleared : goal.returns-clause-cleared
returns-clause-cleared g c = λ told.
    let o = g.F.Source.outside in
    let told_1 = c.sync.ensures.call.same_kind ∙ told in
    let t = (o.state c.marks.new.folder).held in
    let same : (o.state c.sync.new.self).held ≡ t = ap (λ (s : State). s.held) (sym c.marks.ensures.reads.kept) in
    let others : HasNoOtherMark t (path_bytes c.in_ok-marks.marks.items) = subst (λ (u : Image). HasNoOtherMark u (path_bytes c.in_ok-marks.marks.items)) same (c.in_ok-marks.ensures.found told_1).others in
    let swept : IsSwept (path_bytes c.in_ok-marks.marks.items) t (o.state c.sweep_left.new.folder).held = subst (λ (l : List Kept). IsSwept (path_bytes l) t (o.state c.sweep_left.new.folder).held) c.deref.ensures.value
    (c.in-Ok-sweep_left.ensures.swept (c.marks.ensures.reads.call.same_kind ∙ told_1)) in
    cleared_by (path_bytes c.in_ok-marks.marks.items) t (o.state c.sweep_left.new.folder).held others swept

pub returns-in_default-clause-unready : goal.returns-in_default-clause-unready
returns-in_default-clause-unready g c = λ told. inr (ap (λ (s : State). s.held) c.in_default.ensures.kept)

pub returns-in_err-marks-clause-unready : goal.returns-in_err-marks-clause-unready
returns-in_err-marks-clause-unready g c = λ told. on_err _ _ (inr (ap (λ (s : State). s.held) (c.marks.ensures.reads.kept ∙ c.in-Ok.ensures.done told)))

pub returns-in_default-sweep_left-clause-unready : goal.returns-in_default-sweep_left-clause-unready
returns-in_default-sweep_left-clause-unready g c = λ told.
    let o = g.F.Source.outside in
    same_until (o.state c.args.folder.now) (o.state c.marks.new.folder) (o.state c.sweep_left.new.folder) (ap (λ (s : State). s.held) (c.marks.ensures.reads.kept ∙ c.in-Ok.ensures.done told))
    (no_more (o.state c.marks.new.folder) (o.state c.sweep_left.new.folder) (c.in_default-sweep_left.ensures.unready (c.marks.ensures.reads.call.same_kind ∙ c.sync.ensures.call.same_kind ∙ told)))

pub returns-in_err-marks-clause-starved : goal.returns-in_err-marks-clause-starved
returns-in_err-marks-clause-starved g c = λ told. if_starved _ _ (ap (λ (s : State). s.held) (c.marks.ensures.reads.kept ∙ c.in-Ok.ensures.done told))

pub returns-clause-opened : goal.returns-clause-opened
returns-clause-opened g c = λ told.
    let o = g.F.Source.outside in
    let told_1 = c.sync.ensures.call.same_kind ∙ told in
    opened_behind o c.args.folder.now c.marks.new.folder c.sweep_left.new.folder
    (pass_then o c.args.folder.now c.sync.new.self c.marks.new.folder (pass_call o c.args.folder.now c.sync.new.self _ c.sync.ensures.call) (pass_call o c.sync.new.self c.marks.new.folder _ c.marks.ensures.reads.call))
    (ap (λ (s : State). s.held) (c.marks.ensures.reads.kept ∙ c.in-Ok.ensures.done told)) (c.in-Ok-sweep_left.ensures.opened (c.marks.ensures.reads.call.same_kind ∙ told_1))
