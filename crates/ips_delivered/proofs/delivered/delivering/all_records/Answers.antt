use Rattle.std.proofs.Common.{◌∙◌, ◌++◌, List, ℕ, map, ap, ap₂, sym, subst}
use Rattle.std.specs.List.{AllByRecursion}
use Rattle.ips_due.specs.Due.{Content}
use Rattle.ips_due.specs.Delivered.{legacy_record, license_record}
use Rattle.ips_delivered.specs.declared.delivered.named.Legacy.{Legacy}
use Rattle.ips_delivered.specs.declared.delivered.named.License.{License}
use Rattle.ips_delivered.specs.delivered.Named.{NamesLegacy, NamesLicense, legacy_told, license_told, records_with}
use Rattle.ips_delivered.proofs.delivered.delivering.all_records.Goals as goal

pub add_licenses-requires : goal.add_licenses-requires
add_licenses-requires c = subst (λ (l : List License). AllByRecursion NamesLicense (map license_told l)) (sym c.deref.ensures.value) c.requires.licenses

pub add_legacies-requires : goal.add_legacies-requires
add_legacies-requires c = subst (λ (l : List Legacy). AllByRecursion NamesLegacy (map legacy_told l)) (sym c.deref-2.ensures.value) c.requires.packages

pub returns : goal.returns
returns c =
    let w = c.in_ok-records.ensures in
    let licenses = map license_record (map license_told c.deref.result.now) in
    let legacy = map legacy_record (map legacy_told c.deref-2.result.now) in (
      w.0,
      w.1,
      c.in_ok-add_legacies.ensures
          ∙ ap (λ (l : List (List ℕ × Content)). l ++ legacy) (c.in_ok-add_licenses.ensures ∙ ap (λ (l : List (List ℕ × Content)). l ++ licenses) w.2)
          ∙ ap₂ (λ (a : List License) (b : List Legacy). records_with c.args.rows.now w.0 (map license_told a) (map legacy_told b)) c.deref.ensures.value c.deref-2.ensures.value,
    )
