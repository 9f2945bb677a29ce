use Rattle.std.proofs.Common.{◌≡◌, ◌∙◌, ◌++◌, List, map, subst}
use Rattle.std.proofs.lemmas.Result.{on_ok_weaker}
use Rattle.ips_due.specs.Delivered as due
use Rattle.ips_due.specs.Delivered.{delivered_gone}
use Rattle.ips_delivered.specs.declared.delivered.named.Legacy.{Legacy}
use Rattle.ips_delivered.specs.declared.delivered.named.License.{License}
use Rattle.ips_delivered.specs.delivered.Named.{legacy_told, license_told, names_told}
use Rattle.ips_delivered.specs.withdrawn.Sets.{HasJust, HasMore, gone_legacy, gone_licenses, license_place}
use Rattle.ips_delivered.proofs.withdrawn.Going.{delivered_go}
use Rattle.ips_delivered.proofs.withdrawn.More.{more_then}
use Rattle.ips_delivered.proofs.withdrawn.paths.add_delivered.Goals as goal

pub returns : goal.returns
returns c =
    let was = c.args.was.now in
    let is = c.args.is.now in
    let staying = c.in_ok-licenses.licenses in
    let names = c.in_ok-names.names in
    let stems = subst (λ (l : List License). HasJust staying.stems (map (λ (x : due.License). x.stem) (map license_told l))) c.deref.ensures.value c.in_ok-licenses.ensures.stems in
    let places = subst (λ (l : List License). HasJust staying.places (map license_place (map license_told l))) c.deref.ensures.value c.in_ok-licenses.ensures.places in
    let legacy = subst (λ (l : List Legacy). HasJust names (map (λ (x : due.Legacy). x.pkg) (map legacy_told l))) c.deref-2.ensures.value c.in_ok-names.ensures in
    let first = gone_licenses staying (map license_told c.deref-3.result.now) in
    let then = gone_legacy names (map legacy_told c.deref-4.result.now) in
    let all : first ++ then ≡ delivered_gone (names_told was) (names_told is) =
    (λ i. gone_licenses staying (map license_told (c.deref-3.ensures.value i)) ++ gone_legacy names (map legacy_told (c.deref-4.ensures.value i))) ∙ delivered_go staying names (names_told was) (names_told is) c.requires.was c.requires.is stems places legacy in
    on_ok_weaker {P = HasMore c.add_licenses.new.gone c.add_legacy.new.gone then} c.add_legacy.result
    (λ h. subst (HasMore c.args.gone.now c.add_legacy.new.gone) all (more_then c.args.gone.now c.add_licenses.new.gone c.add_legacy.new.gone first then c.in_ok-add_licenses.ensures h)) c.add_legacy.ensures
