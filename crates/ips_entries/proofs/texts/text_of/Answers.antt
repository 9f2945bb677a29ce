use Rattle.std.proofs.Common.{◌≡◌, ◌∙◌, ◌<◌, ◌==◌, List, Some, length, map, slice_get, option_map, refl, sym, ap, arith}
use Rattle.std.proofs.lemmas.List.{length-map}
use Rattle.std.proofs.lemmas.Option.{slice_get-map, slice_get_read}
use Rattle.std.proofs.lemmas.Result.{IfOk-weaker}
use Rattle.ips_fmri.specs.declared.fmri.Fmri.{Fmri}
use Rattle.ips_manifest.specs.declared.package.Package.{Package}
use Rattle.ips_mediate.specs.declared.set.SetMediator.{SetMediator}
use Rattle.ips_records.specs.Lines.{lines_text}
use Rattle.ips_state.specs.State.{installed, recorded}
use Rattle.ips_state.specs.Text.{mediator_line, name_lines, versioned_stem}
use Rattle.ips_entries.specs.Part.{record_text, text_of_package}
use Rattle.ips_entries.proofs.Written.{installed_written, mediators_written, names_written}
use Rattle.ips_entries.proofs.texts.text_of.Goals as goal

pub returns-in-Installed : goal.returns-in-Installed
returns-in-Installed c = IfOk-weaker c.installed_text.result _ _ (λ bytes e.
    e ∙ installed_written c.deref.result.now ∙ ap (λ (l : List Package). lines_text (name_lines (map versioned_stem (map installed l)))) c.deref.ensures.value ∙ ap (record_text (recorded c.args.state.now)) (sym c.in-Installed.is)) c.installed_text.ensures

pub returns-in-Freeze : goal.returns-in-Freeze
returns-in-Freeze c = IfOk-weaker c.names_text.result _ _ (λ bytes e.
    e ∙ names_written c.deref-in-Freeze.result.now ∙ ap (λ (l : List Fmri). lines_text (name_lines l)) c.deref-in-Freeze.ensures.value ∙ ap (record_text (recorded c.args.state.now)) (sym c.in-Freeze.is)) c.names_text.ensures

pub returns-in-Mediators : goal.returns-in-Mediators
returns-in-Mediators c = IfOk-weaker c.mediators_text.result _ _ (λ bytes e.
    e ∙ mediators_written c.deref-in-Mediators.result.now ∙ ap (λ (l : List SetMediator). lines_text (map mediator_line l)) c.deref-in-Mediators.ensures.value ∙ ap (record_text (recorded c.args.state.now)) (sym c.in-Mediators.is)) c.mediators_text.ensures

pub returns-in-Package : goal.returns-in-Package
returns-in-Package c =
    let state = c.args.state.now in
    let n = c.in-Package.number in
    let lt : n < length state.installed.items = omega (arith, rw c.in-Package.is at c.requires.part, length-map state.installed.items installed) in
    let at : slice_get (map installed state.installed.items) n ≡ Some (installed c.index.result.now) =
    slice_get-map installed state.installed.items n ∙ ap (option_map installed) (slice_get_read state.installed.items (length state.installed.items) n c.index.result.now refl lt c.index.ensures) in
    IfOk-weaker c.package_bytes.result _ _ (λ bytes e. e ∙ sym (ap (text_of_package (state.format == 1)) at) ∙ ap (record_text (recorded state)) (sym c.in-Package.is)) c.package_bytes.ensures
