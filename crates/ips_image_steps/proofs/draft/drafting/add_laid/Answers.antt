use Rattle.std.proofs.Common.{◌≡◌, Some, sym, ◌∙◌, ap}
use Rattle.std.specs.Option.{option_map}
use Rattle.std.proofs.lemmas.Option.{same_Some}
use Rattle.std.proofs.lemmas.Result.{on_ok_weaker}
use Rattle.ips_digest.specs.Name.{spelling}
use Rattle.ips_outside.specs.Image.{Entry}
use Rattle.ips_after.specs.Change.{Laid}
use Rattle.ips_laying.specs.declared.laying.Laid.TheVariants as laid
use Rattle.ips_laying.specs.Laying.{LaidDir, LaidFile, LaidPayload, entry_laid, laid_told}
use Rattle.ips_image_steps.specs.draft.Drafting.{provenances_laid}
use Rattle.ips_image_steps.proofs.draft.Drafted.{emitted_as}
use Rattle.ips_image_steps.proofs.draft.drafting.add_laid.Goals as goal

pub returns-in-Some-Dir : goal.returns-in-Some-Dir
returns-in-Some-Dir g c = on_ok_weaker c.push.result (λ pushed bytes t turns provenances e is before.
    let entry = g.L.Laying.laid c.args.laying.now c.args.path.now.bytes in
    let a = c.in-Some-Dir.is in
    let b = c.in-Some-Dir.field-0-is in
    let which : c.in_ok-mode.field-0 ≡ Some (laid.Dir c.in-Some-Dir.mode) = cc in
    let here : Some (LaidDir c.in-Some-Dir.mode) ≡ entry = ap (option_map laid_told) (sym which) ∙ c.in_ok-mode.ensures in
    emitted_as bytes t turns provenances c.args.path.now.bytes _ _ _ _ c.push.new.self (ap (λ (x : Entry). Laid x) (same_Some _ _ (ap (option_map (entry_laid bytes)) here ∙ is))) (ap provenances_laid here) (pushed bytes t turns provenances before)) c.push.ensures

pub returns-in-Some-File : goal.returns-in-Some-File
returns-in-Some-File g c = on_ok_weaker c.push_text.result (λ pushed bytes t turns provenances e is before.
    let entry = g.L.Laying.laid c.args.laying.now c.args.path.now.bytes in
    let a = c.in-Some-File.is in
    let b = c.in-Some-File.field-0-is in
    let which : c.in_ok-mode.field-0 ≡ Some (laid.File c.in-Some-File.mode c.in-Some-File.bytes) = cc in
    let here : Some (LaidFile c.in-Some-File.mode c.in-Some-File.bytes.items) ≡ entry = ap (option_map laid_told) (sym which) ∙ c.in_ok-mode.ensures in
    emitted_as bytes t turns provenances c.args.path.now.bytes _ _ _ _ c.push_text.new.self (ap (λ (x : Entry). Laid x) (same_Some _ _ (ap (option_map (entry_laid bytes)) here ∙ is))) (ap provenances_laid here) (pushed bytes t turns provenances before)) c.push_text.ensures

pub returns-in-Some-Payload : goal.returns-in-Some-Payload
returns-in-Some-Payload g c = on_ok_weaker c.push-in-Some-Payload.result (λ pushed bytes t turns provenances e is before.
    let entry = g.L.Laying.laid c.args.laying.now c.args.path.now.bytes in
    let a = c.in-Some-Payload.is in
    let b = c.in-Some-Payload.field-0-is in
    let which : c.in_ok-mode.field-0 ≡ Some (laid.Payload c.in-Some-Payload.mode c.in-Some-Payload.payload) = cc in
    let here : Some (LaidPayload c.in-Some-Payload.mode (spelling c.in-Some-Payload.payload)) ≡ entry = ap (option_map laid_told) (sym which) ∙ c.in_ok-mode.ensures in
    emitted_as bytes t turns provenances c.args.path.now.bytes _ _ _ _ c.push-in-Some-Payload.new.self (ap (λ (x : Entry). Laid x) (same_Some _ _ (ap (option_map (entry_laid bytes)) here ∙ is))) (ap provenances_laid here) (pushed bytes t turns provenances before)) c.push-in-Some-Payload.ensures
