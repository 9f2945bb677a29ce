use Rattle.std.proofs.Common.{◌∙◌, [], ap, map}
use Rattle.ips_manifest.specs.declared.package.Package.{Package}
use Rattle.ips_state.specs.State.{Installed, installed}
use Rattle.ips_request.specs.Stems.{stems_of, put_all}
use Rattle.ips_request.proofs.Lookups.{firsts_once}
use Rattle.ips_request.proofs.Subjects.{package_stems}
use Rattle.ips_request.proofs.making.package_index.Goals as goal

pub returns : goal.returns
returns c =
    let packages = c.args.packages.now in
    let stems = map (λ (p : Installed). p.stem) (map installed packages) in
    c.in_ok-add_packages.ensures ∙ ap (λ ks. put_all (stems_of ks) (map (λ (p : Package). p.stem) packages)) c.new-stems.ensures.empty
    ∙ ap (put_all []) (package_stems packages) ∙ firsts_once stems c.requires
