use Rattle.std.proofs.Common.{ℕ, List, [], ◌∷◌, ◌++◌, map, length, ap, subst, ◌∙◌}
use Rattle.std.proofs.lemmas.Result.{on_ok_weaker}
use Rattle.ips_outside.specs.Image.{File}
use Rattle.ips_after.specs.Change.{Laid}
use Rattle.ips_steps.specs.Steps.{Put}
use Rattle.ips_steps.specs.View.{step_of}
use Rattle.ips_journal.specs.declared.staged.Staged.TheVariants as staged
use Rattle.ips_emit.specs.Emitted.{FromFile, IsEmitted, bytes_at}
use Rattle.ips_emit.proofs.Adding.{put_on}
use Rattle.ips_emit.proofs.emitting.Emitted.push_standing.Goals as goal

pub returns : goal.returns
returns c = on_ok_weaker c.add_put.result (λ put bytes t turns provenances is.
    subst (λ (q : List ℕ). IsEmitted bytes t (turns ++ (c.args.path.now.bytes, Laid (File c.args.mode (bytes_at t c.args.from.now.bytes))) ∷ []) (provenances ++ FromFile q ∷ []) c.add_put.new.self) c.in_ok-from.ensures.same (put_on bytes t turns provenances c.args.self.now c.add_put.new.self is c.args.path.now.bytes c.args.mode (bytes_at t c.args.from.now.bytes) (staged.Standing c.in_ok-from.from) (ap (bytes_at t) c.in_ok-from.ensures.same) (put.step ∙ ap (λ (q : List ℕ). map step_of c.args.self.now.steps.items ++ Put (length c.args.self.now.staged.items) c.args.mode q ∷ []) c.in_ok-path.ensures.same) put.last))
    c.add_put.ensures
