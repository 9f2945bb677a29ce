use Rattle.std.proofs.Common.{◌≡◌, ℕ, Err, sym, subst, ◌∙◌}
use Rattle.ips_emit.specs.declared.emitting.Emitted.{Emitted}
use Rattle.ips_plan.specs.declared.created.fault.CreateFault.{CreateFault}
use Rattle.ips_plan.specs.created.Creating.{AreCreationSteps, ComesOfCreation}
use Rattle.ips_text.specs.Reading.{IfBad}
use Rattle.ips_operations.proofs.creating.Decided.{unmade_by, change_decided, change_planned}
use Rattle.ips_operations.proofs.creating.deciding.lay.Goals as goal

pub returns-in-Ok-create-clause-decided : goal.returns-in-Ok-create-clause-decided
returns-in-Ok-create-clause-decided g c = λ told a at begun none.
    let t = (g.F.Source.outside.state c.args.folder.now).held in
    let e = c.in-Ok-create.emitted in
    change_decided a t c.args.state.now e c.change_of_steps.result c.in-Ok.publisher c.change_of_steps.ensures begun c.in-Ok.ensures none
    (subst (λ (m : ℕ). AreCreationSteps m c.args.state.now t e) (sym at) (c.in-Ok-create.ensures.created told)) c.in-Ok-create.ensures.within

pub returns-in-Ok-create-clause-planned : goal.returns-in-Ok-create-clause-planned
returns-in-Ok-create-clause-planned g c = λ told a tells repository begun.
    let t = (g.F.Source.outside.state c.args.folder.now).held in
    change_planned a t c.args.state.now c.in-Ok-create.emitted c.change_of_steps.result c.in-Ok.publisher c.change_of_steps.ensures begun tells repository
    (c.in-Ok-create.ensures.stages told) (c.in-Ok-create.ensures.meant told)

pub returns-in-Err-clause-decided : goal.returns-in-Err-clause-decided
returns-in-Err-clause-decided g c = λ told a at begun none.
    let t = (g.F.Source.outside.state c.args.folder.now).held in
    unmade_by Emitted a t c.args.state.now (g.F.Source.outside.tells c.args.folder.now) c.in-Err.fault c.unmade.result c.unmade.ensures.told told none begun
    (subst (λ (m : ℕ). IfBad {X = Emitted} {E = CreateFault} (Err c.in-Err.fault) (ComesOfCreation (g.F.Source.outside.tells c.args.folder.now) t m c.args.state.now)) (sym at) c.in-Err.ensures.refused)
