use Rattle.std.proofs.Common.{◌∙◌, [], ap, map}
use Rattle.ips_manifest.specs.declared.package.Package.{Package}
use Rattle.ips_state.specs.State.{installed}
use Rattle.ips_request.specs.Stems.{has, stems_of, put_all}
use Rattle.ips_request.proofs.Lookups.{has_once}
use Rattle.ips_request.proofs.Subjects.{package_stems}
use Rattle.ips_asked.specs.Asked.{stems_installed}
use Rattle.ips_asked.proofs.avoiding.packages_of.Goals as goal

pub returns : goal.returns
returns c = λ stem.
    let packages = c.args.packages.now in
    ap (has stem) (c.in_ok-add_packages.ensures ∙ ap (λ ks. put_all (stems_of ks) (map (λ (p : Package). p.stem) packages)) c.new-index.ensures.empty ∙ ap (put_all []) (package_stems packages))
    ∙ has_once stem (stems_installed (map installed packages))
