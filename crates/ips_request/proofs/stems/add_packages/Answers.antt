use Rattle.std.proofs.Common.{◌+◌, ◌∷◌, [], ◌∙◌, ap, map, take}
use Rattle.std.proofs.lemmas.List.{map_push}
use Rattle.ips_manifest.specs.declared.package.Package.{Package}
use Rattle.ips_request.specs.Stems.{put, stems_of}
use Rattle.ips_request.proofs.Lookups.{put_next}
use Rattle.ips_request.proofs.stems.add_packages.Goals as goal
use Rattle.ips_text.proofs.Lists.{take_item}

pub loop-package-preserved : goal.loop-package-preserved
loop-package-preserved c =
    let f = λ (x : Package). x.stem in
    let xs = c.args.packages.now in
    let i = c.loop-package.package-index in
    let x = c.package-item.result in
    put_next (stems_of c.args.stems.now.keys) (stems_of c.loop-package.stems.keys) (stems_of c.add_stem.new.stems.keys) (map f (take i xs)) (f x ∷ []) (map f (take (i + 1) xs))
    (ap (map f) (take_item xs i x c.loop-package-test.true c.package-item.is) ∙ map_push f (take i xs) x) c.loop-package.invariant (c.in_ok-add_stem.ensures ∙ ap (put (stems_of c.loop-package.stems.keys)) c.as_str.ensures)
