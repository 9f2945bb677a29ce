use Rattle.std.proofs.Common.{◌++◌, ◌∷◌, [], ℕ, List, subst}
use Rattle.std.proofs.lemmas.Result.{on_ok_weaker}
use Rattle.ips_after.specs.Change.{Laid}
use Rattle.ips_emit.specs.Emitted.{IsEmitted}
use Rattle.ips_image_steps.specs.saving.Saving.{entry_saved, provenances_saved, saved_told}
use Rattle.ips_image_steps.proofs.saving.emitting.add.Goals as goal

pub returns-in-Ok : goal.returns-in-Ok
returns-in-Ok c = on_ok_weaker c.add_at.result (λ added bytes t turns provenances before.
    let what = saved_told c.args.what.now in
    subst (λ (p : List ℕ). IsEmitted bytes t (turns ++ (p, Laid (entry_saved bytes t what)) ∷ []) (provenances ++ provenances_saved what) c.add_at.new.emitted) c.in-Ok.ensures.found (added bytes t turns provenances before)) c.add_at.ensures
