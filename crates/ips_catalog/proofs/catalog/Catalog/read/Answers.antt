use Rattle.std.proofs.Common.{Err, sym, subst, ap, ◌∙◌}
use Rattle.serde_json.specs.Read.{read}
use Rattle.ips_text.specs.Reading.{Gives}
use Rattle.ips_catalog.specs.Catalog.{IsJson}
use Rattle.ips_catalog.specs.Outline.{outline_kept}
use Rattle.ips_catalog.proofs.Grammar.{read_value, read_nothing, text_found, text_only}
use Rattle.ips_catalog.proofs.Outlines.{outlined}
use Rattle.ips_catalog.proofs.catalog.Catalog.read.Goals as goal

pub returns-in_default-clause-exact : goal.returns-in_default-clause-exact
returns-in_default-clause-exact c = read_nothing c.args.publisher.now c.args.bytes.now (λ utf8. absurd (c.in_default.ensures.cases.0 utf8))

pub returns-in-Ok-read_outline-clause-exact : goal.returns-in-Ok-read_outline-clause-exact
returns-in-Ok-read_outline-clause-exact c =
    let text = c.in-Ok.ensures.cases in
    let kept = c.in-Ok-read_outline.ensures.read in
    let json : IsJson c.args.bytes.now kept.0 = record { utf8 = text.1; read = ap read (sym text.0) ∙ kept.1 } in
    subst (Gives (λ x. x) c.read_value.result) (outlined c.args.publisher.now kept.0 (outline_kept c.in-Ok-read_outline.outline) kept.2 ∙ sym (read_value c.args.publisher.now c.args.bytes.now kept.0 json)) c.read_value.ensures

pub returns-in-Ok-read_outline-clause-found : goal.returns-in-Ok-read_outline-clause-found
returns-in-Ok-read_outline-clause-found c =
    let text = c.in-Ok.ensures.cases in
    let kept = c.in-Ok-read_outline.ensures.read in
    let json : IsJson c.args.bytes.now kept.0 = record { utf8 = text.1; read = ap read (sym text.0) ∙ kept.1 } in
    text_found c.args.publisher.now c.args.bytes.now kept.0 c.read_value.result json
    (subst (Gives (λ x. x) c.read_value.result) (outlined c.args.publisher.now kept.0 (outline_kept c.in-Ok-read_outline.outline) kept.2) c.read_value.ensures)

pub returns-in-Ok-read_outline-clause-only : goal.returns-in-Ok-read_outline-clause-only
returns-in-Ok-read_outline-clause-only c = text_only c.args.publisher.now c.args.bytes.now c.read_value.result (returns-in-Ok-read_outline-clause-exact c)

pub returns-in-Err-NotJson-clause-exact : goal.returns-in-Err-NotJson-clause-exact
returns-in-Err-NotJson-clause-exact c =
    let text = c.in-Ok.ensures.cases in
    read_nothing c.args.publisher.now c.args.bytes.now (λ _. ap read (sym text.0) ∙ c.read_outline.ensures.refused (c.in-Err-NotJson.is ∙ ap (λ e. Err e) c.in-Err-NotJson.field-0-is))
