use Rattle.std.proofs.Common.{◌∙◌, ap}
use Rattle.ips_outside.specs.State.{State}
use Rattle.ips_steps.specs.View.{step_of}
use Rattle.ips_apply.proofs.Judged.{not_gone, needs_parent, needs_source}
use Rattle.ips_apply.proofs.judging.judge.Goals as goal

pub returns-then-not-branch-clause-found : goal.returns-then-not-branch-clause-found
returns-then-not-branch-clause-found g c = λ told.
    needs_parent (step_of c.args.step.now) (g.F.Source.outside.state c.args.folder.now).held (g.met.F.Source.sane.formed c.args.folder.now told) c.requires.allowed (not_gone c.args.step.now c.in_default.not-Gone)
    _ (c.in_ok-is_below_dir.ensures.found told) c.if-not-branch.true

pub returns-clause-found : goal.returns-clause-found
returns-clause-found g c = λ told.
    needs_source (step_of c.args.step.now) (g.F.Source.outside.state c.args.folder.now).held (g.met.F.Source.sane.formed c.args.folder.now told) c.requires.allowed (not_gone c.args.step.now c.in_default.not-Gone)
    _ (c.in_ok-is_below_dir.ensures.found told) c.if-not-branch.false
    (g.F.Source.outside.state c.is_below_dir.new.folder).held (ap (λ (u : State). u.held) c.is_below_dir.ensures.reads.kept) c.find_source.result (c.find_source.ensures.found (c.is_below_dir.ensures.reads.call.same_kind ∙ told))
