use Rattle.std.proofs.Common.{◌+◌, ◌∷◌, [], ◌∙◌, ap, take}
use Rattle.ips_request.specs.Stems.{put, stems_of}
use Rattle.ips_request.proofs.Lookups.{put_next}
use Rattle.ips_request.proofs.stems.add_texts.Goals as goal
use Rattle.ips_text.proofs.Lists.{take_item}

pub loop-text-preserved : goal.loop-text-preserved
loop-text-preserved c =
    let xs = c.args.texts.now in
    let i = c.loop-text.text-index in
    let x = c.text-item.result in
    put_next (stems_of c.args.stems.now.keys) (stems_of c.loop-text.stems.keys) (stems_of c.add_stem.new.stems.keys) (take i xs) (x ∷ []) (take (i + 1) xs)
    (take_item xs i x c.loop-text-test.true c.text-item.is) c.loop-text.invariant (c.in_ok-add_stem.ensures ∙ ap (put (stems_of c.loop-text.stems.keys)) c.as_str.ensures)
