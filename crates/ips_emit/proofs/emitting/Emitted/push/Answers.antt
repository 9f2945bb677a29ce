use Rattle.std.proofs.Common.{ℕ, List, [], ◌∷◌, ◌++◌, map, length, false, refl, sym, ap, subst, ◌∙◌}
use Rattle.std.proofs.lemmas.Result.{on_ok_weaker}
use Rattle.ips_outside.specs.Image.{Dir, Link}
use Rattle.ips_digest.specs.Name.{spelling}
use Rattle.ips_steps.specs.Steps.{Fresh, Gone, Hard, Mode, Put, Symlink}
use Rattle.ips_steps.specs.View.{step_of}
use Rattle.ips_journal.specs.declared.staged.Staged.TheVariants as staged
use Rattle.ips_after.specs.Change.{Given, Joined, Laid, Removed}
use Rattle.ips_change.specs.declared.change.Change.{Change as Told}
use Rattle.ips_change.specs.Told.{change_told}
use Rattle.ips_emit.specs.Emitted.{provenances_told, IsEmitted}
use Rattle.ips_emit.proofs.Adding.{kept_on, put_on, step_on}
use Rattle.ips_emit.proofs.emitting.Emitted.push.Goals as goal

pub returns-in-Kept : goal.returns-in-Kept
returns-in-Kept c = λ bytes t turns provenances is. subst (λ (told : Told). IsEmitted bytes t (turns ++ (c.args.path.now.bytes, change_told bytes told) ∷ []) (provenances ++ provenances_told told) c.args.self.now) (sym c.in-Kept.is) (kept_on bytes t turns provenances c.args.self.now c.args.self.now is c.args.path.now.bytes)

pub returns-in-Removed : goal.returns-in-Removed
returns-in-Removed c = on_ok_weaker c.add.result (λ added bytes t turns provenances is.
    subst (λ (told : Told). IsEmitted bytes t (turns ++ (c.args.path.now.bytes, change_told bytes told) ∷ []) (provenances ++ provenances_told told) c.add.new.self) (sym c.in-Removed.is)
    (step_on bytes t turns provenances c.args.self.now c.add.new.self is (c.args.path.now.bytes, Removed) (Gone c.args.path.now.bytes) refl refl (added.step ∙ ap (λ (q : List ℕ). map step_of c.args.self.now.steps.items ++ Gone q ∷ []) c.in_ok-path.ensures.same) added.none))
    c.add.ensures

pub returns-in-Dir : goal.returns-in-Dir
returns-in-Dir c = on_ok_weaker c.add-in-Dir.result (λ added bytes t turns provenances is.
    subst (λ (told : Told). IsEmitted bytes t (turns ++ (c.args.path.now.bytes, change_told bytes told) ∷ []) (provenances ++ provenances_told told) c.add-in-Dir.new.self) (sym c.in-Dir.is)
    (step_on bytes t turns provenances c.args.self.now c.add-in-Dir.new.self is (c.args.path.now.bytes, Laid (Dir c.in-Dir.mode false)) (Fresh c.in-Dir.mode c.args.path.now.bytes) refl refl (added.step ∙ ap (λ (q : List ℕ). map step_of c.args.self.now.steps.items ++ Fresh c.in-Dir.mode q ∷ []) c.in_ok-path.ensures.same) added.none))
    c.add-in-Dir.ensures

pub returns-in-Link : goal.returns-in-Link
returns-in-Link c = on_ok_weaker c.add_text_link.result (λ added bytes t turns provenances is.
    subst (λ (told : Told). IsEmitted bytes t (turns ++ (c.args.path.now.bytes, change_told bytes told) ∷ []) (provenances ++ provenances_told told) c.add_text_link.new.self) (sym c.in-Link.is)
    (step_on bytes t turns provenances c.args.self.now c.add_text_link.new.self is (c.args.path.now.bytes, Laid (Link c.in-Link.target.now)) (Symlink c.args.path.now.bytes c.in-Link.target.now) refl refl (added.step ∙ ap (λ (q : List ℕ). map step_of c.args.self.now.steps.items ++ Symlink q c.in-Link.target.now ∷ []) c.in_ok-path.ensures.same) added.none))
    c.add_text_link.ensures

pub returns-in-Hard : goal.returns-in-Hard
returns-in-Hard c = on_ok_weaker c.add_hard.result (λ added bytes t turns provenances is.
    subst (λ (told : Told). IsEmitted bytes t (turns ++ (c.args.path.now.bytes, change_told bytes told) ∷ []) (provenances ++ provenances_told told) c.add_hard.new.self) (sym c.in-Hard.is)
    (step_on bytes t turns provenances c.args.self.now c.add_hard.new.self is (c.args.path.now.bytes, Joined c.in-Hard.to.now.bytes) (Hard c.args.path.now.bytes c.in-Hard.to.now.bytes) refl refl (added.step ∙ ap (λ (q : List ℕ). map step_of c.args.self.now.steps.items ++ Hard q c.in-Hard.to.now.bytes ∷ []) c.in_ok-path.ensures.same) added.none))
    c.add_hard.ensures

pub returns-in-Mode : goal.returns-in-Mode
returns-in-Mode c = on_ok_weaker c.add-in-Mode.result (λ added bytes t turns provenances is.
    subst (λ (told : Told). IsEmitted bytes t (turns ++ (c.args.path.now.bytes, change_told bytes told) ∷ []) (provenances ++ provenances_told told) c.add-in-Mode.new.self) (sym c.in-Mode.is)
    (step_on bytes t turns provenances c.args.self.now c.add-in-Mode.new.self is (c.args.path.now.bytes, Given c.in-Mode.mode) (Mode c.in-Mode.mode c.args.path.now.bytes) refl refl (added.step ∙ ap (λ (q : List ℕ). map step_of c.args.self.now.steps.items ++ Mode c.in-Mode.mode q ∷ []) c.in_ok-path.ensures.same) added.none))
    c.add-in-Mode.ensures

pub returns-in-File : goal.returns-in-File
returns-in-File c = on_ok_weaker c.add_put.result (λ put bytes t turns provenances is.
    subst (λ (told : Told). IsEmitted bytes t (turns ++ (c.args.path.now.bytes, change_told bytes told) ∷ []) (provenances ++ provenances_told told) c.add_put.new.self) (sym c.in-File.is)
    (put_on bytes t turns provenances c.args.self.now c.add_put.new.self is c.args.path.now.bytes c.in-File.mode (bytes (spelling c.in-File.payload.now)) (staged.Payload c.in-File.payload.now) refl (put.step ∙ ap (λ (q : List ℕ). map step_of c.args.self.now.steps.items ++ Put (length c.args.self.now.staged.items) c.in-File.mode q ∷ []) c.in_ok-path.ensures.same) put.last))
    c.add_put.ensures
