use Rattle.std.proofs.Common.{◌≡◌, Some, ◌∙◌, ap}
use Rattle.std.proofs.lemmas.Result.{on_ok_weaker}
use Rattle.ips_change.specs.declared.survey.said.Said.{Said}
use Rattle.ips_change.specs.declared.survey.said.Said.TheVariants.{Lays, Takes}
use Rattle.ips_image_steps.proofs.draft.Drafted.{emitted_as, gone_here, laid_here, laid_one, own_here, taken_here}
use Rattle.ips_image_steps.proofs.draft.drafting.add.Goals as goal

pub returns-then-gone : goal.returns-then-gone
returns-then-gone g c = on_ok_weaker c.push.result (λ pushed bytes t turns provenances o are lays before.
    let entries = g.L.Laying.laid c.args.laying.now c.args.path.now.bytes in
    let here = gone_here bytes c.args.gone c.args.said o entries c.args.change c.if-gone.true in
    emitted_as bytes t turns provenances c.args.path.now.bytes _ _ _ _ c.push.new.self here.change_is here.from_is (pushed bytes t turns provenances before)) c.push.ensures

pub returns-in-Some-Takes : goal.returns-in-Some-Takes
returns-in-Some-Takes g c = on_ok_weaker c.push-in-Some-Takes.result (λ pushed bytes t turns provenances o are lays before.
    let entries = g.L.Laying.laid c.args.laying.now c.args.path.now.bytes in
    let which : c.args.said ≡ Some Takes = c.in-Some-Takes.is ∙ ap (λ (x : Said). Some x) (rw c.in-Some-Takes.is at c.in-Some-Takes.field-0-is) in
    let here = taken_here bytes c.args.gone c.args.said o entries c.args.change c.if-gone.false which are in
    emitted_as bytes t turns provenances c.args.path.now.bytes _ _ _ _ c.push-in-Some-Takes.new.self here.change_is here.from_is (pushed bytes t turns provenances before)) c.push-in-Some-Takes.ensures

pub returns-in-None : goal.returns-in-None
returns-in-None g c = on_ok_weaker c.push-in-None.result (λ pushed bytes t turns provenances o are lays before.
    let entries = g.L.Laying.laid c.args.laying.now c.args.path.now.bytes in
    let here = own_here bytes c.args.gone c.args.said o entries c.args.change c.if-gone.false c.in-None.is are in
    emitted_as bytes t turns provenances c.args.path.now.bytes _ _ _ _ c.push-in-None.new.self here.change_is here.from_is (pushed bytes t turns provenances before)) c.push-in-None.ensures

pub returns-in-Some-Lays : goal.returns-in-Some-Lays
returns-in-Some-Lays g c = on_ok_weaker c.add_laid.result (λ pushed bytes t turns provenances o are lays before.
    let entries = g.L.Laying.laid c.args.laying.now c.args.path.now.bytes in
    let which : c.args.said ≡ Some Lays = c.in-Some-Lays.is ∙ ap (λ (x : Said). Some x) (rw c.in-Some-Lays.is at c.in-Some-Lays.field-0-is) in
    let one = laid_one c.args.said o which are in
    let here = laid_here bytes c.args.gone c.args.said o entries c.args.change one.entry c.if-gone.false which one.is in
    emitted_as bytes t turns provenances c.args.path.now.bytes _ _ _ _ c.add_laid.new.emitted here.change_is here.from_is (pushed bytes t turns provenances one.entry (lays one.entry one.is) before)) c.add_laid.ensures
