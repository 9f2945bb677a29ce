use Rattle.std.proofs.Common.{ℕ, List, [], ◌∷◌, ◌++◌, map, length, refl, ap, ◌∙◌}
use Rattle.std.proofs.lemmas.Result.{on_ok_weaker}
use Rattle.ips_steps.specs.Steps.{Put}
use Rattle.ips_steps.specs.View.{step_of}
use Rattle.ips_journal.specs.declared.staged.Staged.TheVariants as staged
use Rattle.ips_emit.proofs.Adding.{put_on}
use Rattle.ips_emit.proofs.emitting.Emitted.push_text.Goals as goal

pub returns : goal.returns
returns c = on_ok_weaker c.add_put.result (λ put bytes t turns provenances is.
    put_on bytes t turns provenances c.args.self.now c.add_put.new.self is c.args.path.now.bytes c.args.mode c.args.text.items (staged.Bytes c.args.text) refl (put.step ∙ ap (λ (q : List ℕ). map step_of c.args.self.now.steps.items ++ Put (length c.args.self.now.staged.items) c.args.mode q ∷ []) c.in_ok-path.ensures.same) put.last)
    c.add_put.ensures
