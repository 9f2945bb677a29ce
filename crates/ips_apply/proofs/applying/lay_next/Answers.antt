use Rattle.std.proofs.Common.{◌≡◌, true, [], ◌∷◌, IsErr, is_some, sym, ◌∙◌, ap, subst}
use Rattle.ips_outside.specs.State.{State}
use Rattle.ips_steps.specs.Steps.{Step, feasible}
use Rattle.ips_steps.specs.View.{step_of}
use Rattle.ips_apply.specs.Applied.{ChangedBy}
use Rattle.ips_apply.proofs.Changes.{read_then_changed}
use Rattle.ips_apply.proofs.Seen.{seen_behind}
use Rattle.ips_apply.proofs.applying.lay_next.Goals as goal

pub returns-in_err-lay-clause-any_moment : goal.returns-in_err-lay-clause-any_moment
returns-in_err-lay-clause-any_moment g c = λ told s is.
    let one : step_of c.step-step.result.now ≡ s = let both = sym c.step-step.ensures.step ∙ is in cc in
    subst (λ (x : Step). ChangedBy g.F.Source.outside x c.args.folder.now c.lay.new.folder) one
    (read_then_changed g.F.Source.outside g.met.F.Source.sane (step_of c.step-step.result.now) c.args.folder.now c.judge.new.folder c.lay.new.folder (IsErr c.judge.result) c.judge.ensures.reads
    (c.lay.ensures.any_moment (c.judge.ensures.reads.call.same_kind ∙ told)))

pub returns-clause-any_moment : goal.returns-clause-any_moment
returns-clause-any_moment g c = λ told s is.
    let one : step_of c.step-step.result.now ≡ s = let both = sym c.step-step.ensures.step ∙ is in cc in
    subst (λ (x : Step). ChangedBy g.F.Source.outside x c.args.folder.now c.lay.new.folder) one
    (read_then_changed g.F.Source.outside g.met.F.Source.sane (step_of c.step-step.result.now) c.args.folder.now c.judge.new.folder c.lay.new.folder (IsErr c.judge.result) c.judge.ensures.reads
    (c.lay.ensures.any_moment (c.judge.ensures.reads.call.same_kind ∙ told)))

pub returns-clause-known : goal.returns-clause-known
returns-clause-known g c = λ told.
    let s = step_of c.step-step.result.now in
    let old = g.F.Source.outside.state c.args.folder.now in
    let mid = g.F.Source.outside.state c.judge.new.folder in
    let can : feasible (s ∷ []) old.held ≡ true = sym (c.in_ok-other_mode.ensures.found told) ∙ ap is_some c.in-Some.is in
    seen_behind s mid.held (g.F.Source.outside.state c.lay.new.folder).held c.go_behind.new.self
    (ap (λ (u : State). feasible (s ∷ []) u.held) c.judge.ensures.reads.kept ∙ can) (c.in_ok-lay.ensures.done (c.judge.ensures.reads.call.same_kind ∙ told)) c.go_behind.ensures
