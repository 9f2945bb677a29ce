use Rattle.std.proofs.Common.{◌∙◌, ap}
use Rattle.ips_showing.specs.Answers.{unnamed_told}
use Rattle.ips_showing.specs.Asked.{Contents}
use Rattle.ips_showing.specs.Shows as shows
use Rattle.ips_showing.specs.Shows.{IsPackageText}
use Rattle.ips_showing.proofs.Told.{named_in, not_named_in, text_by, unnamed_by}
use Rattle.ips_showing.proofs.stated.delivered.Goals as goal

pub returns-in-Ok-clause-decided : goal.returns-in-Ok-clause-decided
returns-in-Ok-clause-decided c = λ t h.
    let s = c.args.state.now in
    let held = c.in-Ok.held.now in
    let is_named = named_in s c.args.pattern.now held c.as_str.result.now c.deref.result.now c.as_str.ensures c.deref.ensures.value c.in-Ok.ensures.stands c.in-Ok.ensures.named in
    text_by t (Contents c.args.pattern.now c.args.manifest) (IsPackageText c.args.manifest s.settings held) c.package_text.result c.text_shown.result c.text_shown.ensures c.package_text.ensures
    (λ x is. shows.Delivered (record { state = s; holds = h }) held is_named is)

pub returns-in-Err-Bad-clause-decided : goal.returns-in-Err-Bad-clause-decided
returns-in-Err-Bad-clause-decided c = λ t h.
    let s = c.args.state.now in
    unnamed_by t c.args.pattern.now c.args.manifest (record { state = s; holds = h }) c.in-Err-Bad.why c.unnamed.result (c.unnamed.ensures ∙ ap unnamed_told c.in-Err-Bad.why-is)
    (not_named_in s c.args.pattern.now c.in-Err-Bad.why c.as_str.result.now c.deref.result.now c.as_str.ensures c.deref.ensures.value (rw c.in-Err-Bad.field-0-is at c.in-Err-Bad.ensures.unnamed))
