use Rattle.std.proofs.Common.{◌+◌, ◌∙◌, ◌||◌, List, ℕ, ap, map, take, bytes_eq}
use Rattle.std.proofs.lemmas.List.{map_push}
use Rattle.ips_manifest.specs.declared.package.Package.{Package}
use Rattle.ips_state.specs.State.{Installed, installed}
use Rattle.ips_request.specs.Named.{installed_stems}
use Rattle.ips_request.specs.Stems.{has}
use Rattle.ips_request.proofs.Inserted.{has_next}
use Rattle.ips_request.proofs.known.add_installed.Goals as goal
use Rattle.ips_text.proofs.Lists.{take_item}

pub loop-package-preserved : goal.loop-package-preserved
loop-package-preserved c = λ x.
    let packages = c.args.packages.now in
    let i = c.loop-package.package-index in
    let here = c.package-item.result in
    let split =
    ap (λ (ps : List Package). installed_stems (map installed ps)) (take_item packages i here c.loop-package-test.true c.package-item.is)
    ∙ ap installed_stems (map_push installed (take i packages) here) ∙ map_push (λ (p : Installed). p.stem) (map installed (take i packages)) (installed here) in
    has_next x here.stem (installed_stems (map installed (take i packages))) (installed_stems (map installed (take (i + 1) packages))) c.args.known.now.keys c.loop-package.known.keys c.add_stem.new.known.keys
    split (c.loop-package.invariant x)
    (c.in_ok-add_stem.ensures x ∙ ap (λ (s : List ℕ). bytes_eq x s || has x c.loop-package.known.keys) c.in_ok-copy.ensures)
