use Rattle.std.proofs.Common.{◌≡◌, Some, None, refl, sym, ◌∙◌, ap, subst}
use Rattle.ips_steps.specs.Steps.{Hard}
use Rattle.ips_steps.specs.View.{step_of}
use Rattle.ips_steps.specs.declared.step.Step as program
use Rattle.ips_journal.specs.Reading.{stage_for}
use Rattle.ips_apply.specs.Applied.{ChangedBy}
use Rattle.ips_apply.proofs.Changes.{call_at_path, known}
use Rattle.ips_apply.proofs.Naming.{can_name, differs_there, still_makes, still_file, is_named, mode_changed, name_changed}
use Rattle.ips_apply.proofs.acting.make_hard.Goals as goal

pub give_mode-requires-clause-file : goal.give_mode-requires-clause-file
give_mode-requires-clause-file g c = λ told.
    let staged = known c.args.content c.in-Put-Some.staged (stage_for (step_of c.args.step.now) ≡ None) (λ p. stage_for (step_of c.args.step.now) ≡ Some p.now.bytes) c.in-Put-Some.is-1 c.requires.content in
    (can_name (step_of c.args.step.now) c.in-Put-Some.stage-0 c.in-Put-Some.mode c.in-Put-Some.path.bytes c.in-Put-Some.staged.now.bytes (ap step_of c.in-Put-Some.is-0) staged (g.F.Source.outside.state c.args.folder.now).held (c.requires.can told)).1

pub give_mode-requires-clause-other : goal.give_mode-requires-clause-other
give_mode-requires-clause-other g c = λ told.
    let staged = known c.args.content c.in-Put-Some.staged (stage_for (step_of c.args.step.now) ≡ None) (λ p. stage_for (step_of c.args.step.now) ≡ Some p.now.bytes) c.in-Put-Some.is-1 c.requires.content in
    differs_there (step_of c.args.step.now) c.in-Put-Some.stage-0 c.in-Put-Some.mode c.in-Put-Some.path.bytes c.in-Put-Some.staged.now.bytes (ap step_of c.in-Put-Some.is-0) staged (g.F.Source.outside.state c.args.folder.now).held c.args.other_mode (c.requires.mode told)

pub make_hard-requires-clause-can : goal.make_hard-requires-clause-can
make_hard-requires-clause-can g c = λ told.
    let staged = known c.args.content c.in-Put-Some.staged (stage_for (step_of c.args.step.now) ≡ None) (λ p. stage_for (step_of c.args.step.now) ≡ Some p.now.bytes) c.in-Put-Some.is-1 c.requires.content in
    let before = sym c.give_mode.ensures.same_kind ∙ told in
    still_makes (step_of c.args.step.now) c.in-Put-Some.stage-0 c.in-Put-Some.mode c.in-Put-Some.path.bytes c.in-Put-Some.staged.now.bytes (ap step_of c.in-Put-Some.is-0) staged (g.F.Source.outside.state c.args.folder.now).held _ (c.in_ok-give_mode-in-Put-Some.ensures.done before) (c.requires.can before)

pub make_hard-requires-clause-file : goal.make_hard-requires-clause-file
make_hard-requires-clause-file g c = λ told.
    let staged = known c.args.content c.in-Put-Some.staged (stage_for (step_of c.args.step.now) ≡ None) (λ p. stage_for (step_of c.args.step.now) ≡ Some p.now.bytes) c.in-Put-Some.is-1 c.requires.content in
    let before = sym c.give_mode.ensures.same_kind ∙ told in
    still_file (step_of c.args.step.now) c.in-Put-Some.stage-0 c.in-Put-Some.mode c.in-Put-Some.path.bytes c.in-Put-Some.staged.now.bytes (ap step_of c.in-Put-Some.is-0) staged (g.F.Source.outside.state c.args.folder.now).held _ (c.in_ok-give_mode-in-Put-Some.ensures.done before) (c.requires.can before)

pub returns-in_err-give_mode-in-Put-Some-clause-any_moment : goal.returns-in_err-give_mode-in-Put-Some-clause-any_moment
returns-in_err-give_mode-in-Put-Some-clause-any_moment g c = λ told.
    let staged = known c.args.content c.in-Put-Some.staged (stage_for (step_of c.args.step.now) ≡ None) (λ p. stage_for (step_of c.args.step.now) ≡ Some p.now.bytes) c.in-Put-Some.is-1 c.requires.content in
    mode_changed (step_of c.args.step.now) c.in-Put-Some.stage-0 c.in-Put-Some.mode c.in-Put-Some.path.bytes c.in-Put-Some.staged.now.bytes (ap step_of c.in-Put-Some.is-0) staged g.F.Source.outside g.met.F.Source.sane c.args.folder.now c.give_mode.new.folder (c.give_mode.ensures.any_moment told)

pub returns-in_ok-give_mode-in-Put-Some-clause-any_moment : goal.returns-in_ok-give_mode-in-Put-Some-clause-any_moment
returns-in_ok-give_mode-in-Put-Some-clause-any_moment g c = λ told.
    let staged = known c.args.content c.in-Put-Some.staged (stage_for (step_of c.args.step.now) ≡ None) (λ p. stage_for (step_of c.args.step.now) ≡ Some p.now.bytes) c.in-Put-Some.is-1 c.requires.content in
    name_changed (step_of c.args.step.now) c.in-Put-Some.stage-0 c.in-Put-Some.mode c.in-Put-Some.path.bytes c.in-Put-Some.staged.now.bytes (ap step_of c.in-Put-Some.is-0) staged g.F.Source.outside g.met.F.Source.sane c.args.folder.now c.give_mode.new.folder (c.give_mode.ensures.any_moment told)
    c.make_hard.new.self _ c.make_hard.result (c.give_mode.ensures.same_kind ∙ told) c.make_hard.ensures

pub returns-in-Hard-default-clause-any_moment : goal.returns-in-Hard-default-clause-any_moment
returns-in-Hard-default-clause-any_moment g c = λ told.
    subst (λ (x : program.Step). ChangedBy g.F.Source.outside (step_of x) c.args.folder.now c.make_hard-in-Hard-default.new.self) (sym c.in-Hard-default.is-0)
    (call_at_path g.F.Source.outside g.met.F.Source.sane (Hard c.in-Hard-default.path.bytes c.in-Hard-default.to.bytes) c.in-Hard-default.path.bytes c.args.folder.now c.make_hard-in-Hard-default.new.self _ c.make_hard-in-Hard-default.result (λ q. refl) told c.make_hard-in-Hard-default.ensures)

pub returns-in_ok-give_mode-in-Put-Some-clause-done : goal.returns-in_ok-give_mode-in-Put-Some-clause-done
returns-in_ok-give_mode-in-Put-Some-clause-done g c = λ told.
    let staged = known c.args.content c.in-Put-Some.staged (stage_for (step_of c.args.step.now) ≡ None) (λ p. stage_for (step_of c.args.step.now) ≡ Some p.now.bytes) c.in-Put-Some.is-1 c.requires.content in
    is_named (step_of c.args.step.now) c.in-Put-Some.stage-0 c.in-Put-Some.mode c.in-Put-Some.path.bytes c.in-Put-Some.staged.now.bytes (ap step_of c.in-Put-Some.is-0) staged (g.F.Source.outside.state c.args.folder.now).held g.F.Source.outside c.give_mode.new.folder c.make_hard.new.self c.make_hard.result
    (c.in_ok-give_mode-in-Put-Some.ensures.done told) (c.give_mode.ensures.same_kind ∙ told) c.make_hard.ensures
