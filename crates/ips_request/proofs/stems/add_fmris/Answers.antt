use Rattle.std.proofs.Common.{◌+◌, ◌∷◌, [], ◌∙◌, ap, map, take}
use Rattle.std.proofs.lemmas.List.{map_push}
use Rattle.ips_fmri.specs.declared.fmri.Fmri.{Fmri}
use Rattle.ips_request.specs.Stems.{put, stems_of}
use Rattle.ips_request.proofs.Lookups.{put_next}
use Rattle.ips_request.proofs.stems.add_fmris.Goals as goal
use Rattle.ips_text.proofs.Lists.{take_item}

pub loop-fmri-preserved : goal.loop-fmri-preserved
loop-fmri-preserved c =
    let f = λ (x : Fmri). x.stem in
    let xs = c.args.fmris.now in
    let i = c.loop-fmri.fmri-index in
    let x = c.fmri-item.result in
    put_next (stems_of c.args.stems.now.keys) (stems_of c.loop-fmri.stems.keys) (stems_of c.add_stem.new.stems.keys) (map f (take i xs)) (f x ∷ []) (map f (take (i + 1) xs))
    (ap (map f) (take_item xs i x c.loop-fmri-test.true c.fmri-item.is) ∙ map_push f (take i xs) x) c.loop-fmri.invariant (c.in_ok-add_stem.ensures ∙ ap (put (stems_of c.loop-fmri.stems.keys)) c.as_str.ensures)
