use Rattle.std.proofs.Common.{refl, ◌∙◌}
use Rattle.ips_steps.specs.Steps.{stage_name}
use Rattle.ips_text.specs.Ancestry.{covers}
use Rattle.ips_outside.specs.State.{nowhere}
use Rattle.ips_folder.proofs.Runs.{keeps_then, keeps_wider}
use Rattle.ips_commit.specs.Pending.{is_swept}
use Rattle.ips_commit.proofs.OwnNames.{stage_swept}
use Rattle.ips_commit.proofs.Swept.{swept_behind}
use Rattle.ips_commit.proofs.Unready.{unready_by, unready_then}
use Rattle.ips_commit.proofs.GateOpens.{on_err}
use Rattle.ips_commit.proofs.sweeping.sweep_left.Goals as goal

pub returns-in_err-open_left-clause-any_moment : goal.returns-in_err-open_left-clause-any_moment
returns-in_err-open_left-clause-any_moment g c = λ told.
    keeps_wider g.F.Source.outside nowhere (covers stage_name) is_swept is_swept c.args.folder.now c.open_left.new.folder (λ q off. refl) stage_swept (c.open_left.ensures.opens.any_moment told)

pub returns-in_err-open_left-clause-unready : goal.returns-in_err-open_left-clause-unready
returns-in_err-open_left-clause-unready g c = λ told.
    let o = g.F.Source.outside in
    on_err _ _ (unready_by (o.state c.args.folder.now) (o.state c.open_left.new.folder) (c.open_left.ensures.opens.touched told))

pub returns-in_err-sweep-clause-any_moment : goal.returns-in_err-sweep-clause-any_moment
returns-in_err-sweep-clause-any_moment g c = λ told.
    let o = g.F.Source.outside in
    keeps_then o is_swept is_swept c.args.folder.now c.open_left.new.folder c.sweep.new.folder
    (keeps_wider o nowhere (covers stage_name) is_swept is_swept c.args.folder.now c.open_left.new.folder (λ q off. refl) stage_swept (c.open_left.ensures.opens.any_moment told))
    (keeps_wider o is_swept nowhere is_swept is_swept c.open_left.new.folder c.sweep.new.folder (λ q off. off) (λ q off. refl) (c.sweep.ensures.any_moment (c.open_left.ensures.same_kind ∙ told)))

pub returns-in_err-sweep-clause-unready : goal.returns-in_err-sweep-clause-unready
returns-in_err-sweep-clause-unready g c = λ told.
    let o = g.F.Source.outside in
    on_err _ _ (unready_then (o.state c.args.folder.now) (o.state c.open_left.new.folder) (o.state c.sweep.new.folder)
    (unready_by (o.state c.args.folder.now) (o.state c.open_left.new.folder) (c.open_left.ensures.opens.touched told)) (c.in_err-sweep.ensures.unready (c.open_left.ensures.same_kind ∙ told)))

pub returns-clause-any_moment : goal.returns-clause-any_moment
returns-clause-any_moment g c = λ told.
    let o = g.F.Source.outside in
    keeps_then o is_swept is_swept c.args.folder.now c.open_left.new.folder c.sweep.new.folder
    (keeps_wider o nowhere (covers stage_name) is_swept is_swept c.args.folder.now c.open_left.new.folder (λ q off. refl) stage_swept (c.open_left.ensures.opens.any_moment told))
    (keeps_wider o is_swept nowhere is_swept is_swept c.open_left.new.folder c.sweep.new.folder (λ q off. off) (λ q off. refl) (c.sweep.ensures.any_moment (c.open_left.ensures.same_kind ∙ told)))

pub returns-clause-opened : goal.returns-clause-opened
returns-clause-opened g c = λ told. record {
  at = c.open_left.new.folder;
  since = c.open_left.ensures.opens.passed;
  until = c.in_ok-sweep.ensures.passed;
  held = c.in_ok-open_left.ensures.open told;
}

pub returns-clause-swept : goal.returns-clause-swept
returns-clause-swept g c = λ told.
    let o = g.F.Source.outside in
    swept_behind _ (covers stage_name) (o.state c.args.folder.now).held (o.state c.open_left.new.folder).held (o.state c.sweep.new.folder).held (c.open_left.ensures.opens.any_moment told).now.agrees
    (c.in_ok-sweep.ensures.swept (c.open_left.ensures.same_kind ∙ told))
