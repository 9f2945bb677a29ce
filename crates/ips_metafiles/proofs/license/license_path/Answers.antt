use Rattle.std.proofs.Common.{◌≡◌, ◌∙◌, Err, sym, subst}
use Rattle.ips_text.specs.Reading.{IfBad}
use Rattle.ips_text.specs.Path.{IsPath}
use Rattle.ips_text.specs.Kept.{Kept}
use Rattle.ips_metafiles.specs.Records as spec
use Rattle.ips_metafiles.proofs.Licenses.{bytes_are, license_is_path}
use Rattle.ips_metafiles.proofs.license.license_path.Goals as goal

pub unreachable-requires : goal.unreachable-requires
unreachable-requires c =
    let stem = c.args.stem.now in
    let name = c.args.name.now in
    let is : c.as_bytes.result.now ≡ spec.license_path stem name = c.as_bytes.ensures.value ∙ c.in_ok-path.ensures in
    subst (λ fault. IfBad {X = Kept} (Err fault) (λ _. ⊥)) c.in-Err-Bad.field-0-is
    (c.in-Err-Bad.ensures.only (subst IsPath (sym is) (license_is_path stem name (bytes_are stem c.type_inv.stem) (bytes_are name c.type_inv.name) c.requires.stem c.requires.name)))
