use Rattle.std.proofs.Common.{◌∙◌, List, ap, map, option_map, slice_get, sym}
use Rattle.std.proofs.lemmas.Option.{slice_get-map}
use Rattle.ips_manifest.specs.declared.package.Package.{Package}
use Rattle.ips_state.specs.State.{Installed, installed}
use Rattle.ips_request.specs.Stems.{stems_of}
use Rattle.ips_request.proofs.Lookups.{found_at, found_none, mapped_twice}
use Rattle.ips_request.proofs.asking.Subject.installed.Goals as goal

pub returns-in-Some : goal.returns-in-Some
returns-in-Some c =
    let s = c.args.self.now in
    let packages = s.state.now.installed.items in
    mapped_twice (λ p. p.now) installed c.package_at.result ∙ ap (option_map installed) (c.package_at.ensures ∙ ap (λ (ps : List Package). slice_get ps c.in-Some.number) c.deref.ensures.value) ∙ sym (slice_get-map installed packages c.in-Some.number)
    ∙ found_at (λ (p : Installed). p.stem) c.args.stem.now (map installed packages) (stems_of s.packages.keys) s.packages_known c.in-Some.number (sym c.in-Some.is ∙ c.number.ensures.number)

pub returns-in-None : goal.returns-in-None
returns-in-None c =
    let s = c.args.self.now in
    found_none (λ (p : Installed). p.stem) c.args.stem.now (map installed s.state.now.installed.items) (stems_of s.packages.keys) s.packages_known (sym c.in-None.is ∙ c.number.ensures.number)
