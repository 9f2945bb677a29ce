use Rattle.std.proofs.Common.{◌+◌, take}
use Rattle.ips_text.proofs.Lists.{take_item}
use Rattle.ips_request.proofs.Inserted.{has_next}
use Rattle.ips_asked.proofs.avoiding.add_each.Goals as goal

pub loop-stem-preserved : goal.loop-stem-preserved
loop-stem-preserved c = λ x.
    let stems = c.args.stems.now in
    let i = c.loop-stem.stem-index in
    let here = c.stem-item.result in
    has_next x here (take i stems) (take (i + 1) stems) c.args.all.now.keys c.loop-stem.all.keys c.add.new.all.keys
    (take_item stems i here c.loop-stem-test.true c.stem-item.is) (c.loop-stem.invariant x) (c.in_ok-add.ensures x)
