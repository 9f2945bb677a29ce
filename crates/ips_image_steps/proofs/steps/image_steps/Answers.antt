use Rattle.std.proofs.Common.{◌≡◌, Option, sym, subst}
use Rattle.std.proofs.lemmas.Result.{IfOk-weaker}
use Rattle.ips_text.specs.Kept.{Kept}
use Rattle.ips_after.specs.Request.{Request}
use Rattle.ips_emit.specs.declared.emitting.Emitted.{Emitted}
use Rattle.ips_image_steps.specs.Asked.{HasOwnFolder, IsAsked}
use Rattle.ips_image_steps.specs.Answers.{HasSteps, IsAnswer}
use Rattle.ips_image_steps.proofs.steps.image_steps.Goals as goal

pub returns-in-Ok-None-clause-planned : goal.returns-in-Ok-None-clause-planned
returns-in-Ok-None-clause-planned g c = λ told.
    let t = (g.F.Source.outside.state c.args.folder.now).held in
    let moment = c.args.moment.now in
    let table = c.args.table.now in
    let e = c.add_steps.new.emitted in
    IfOk-weaker c.listed.result (λ (given : Emitted). given ≡ e) (λ (given : Emitted). (r : Request) → IsAsked (g.L.Laying.laid c.args.laying.now) table.rows.items table.said.items r → HasOwnFolder r t → HasSteps moment r t given)
    (λ given is r asked folder. subst (HasSteps moment r t) (sym is) (subst (λ (o : Option Kept). IsAnswer moment r t o e) c.in-Ok-None.field-0-is (c.in-Ok-None.ensures.told told r asked folder))) c.listed.ensures.same
