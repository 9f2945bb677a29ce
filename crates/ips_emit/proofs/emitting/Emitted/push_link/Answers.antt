use Rattle.std.proofs.Common.{ℕ, List, [], ◌∷◌, ◌++◌, map, refl, ap, ◌∙◌}
use Rattle.std.proofs.lemmas.Result.{on_ok_weaker}
use Rattle.ips_outside.specs.Image.{Link}
use Rattle.ips_steps.specs.Steps.{Symlink}
use Rattle.ips_steps.specs.View.{step_of}
use Rattle.ips_after.specs.Change.{Laid}
use Rattle.ips_emit.proofs.Adding.{no_more, step_on}
use Rattle.ips_emit.proofs.emitting.Emitted.push_link.Goals as goal

pub returns : goal.returns
returns c = on_ok_weaker c.add_link.result (λ added bytes t turns provenances is.
    no_more bytes t (turns ++ (c.args.path.now.bytes, Laid (Link c.args.target.now)) ∷ []) provenances c.add_link.new.self (step_on bytes t turns provenances c.args.self.now c.add_link.new.self is (c.args.path.now.bytes, Laid (Link c.args.target.now)) (Symlink c.args.path.now.bytes c.args.target.now) refl refl
    (added.step ∙ ap (λ (q : List ℕ). map step_of c.args.self.now.steps.items ++ Symlink q c.args.target.now ∷ []) c.in_ok-path.ensures.same) added.none))
    c.add_link.ensures
