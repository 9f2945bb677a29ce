use Rattle.ips_depend.proofs.Sparing.{spared_fails, spared_more}
use Rattle.ips_depend.proofs.holding.are_spared.Goals as goal

pub returns-then-not-spared : goal.returns-then-not-spared
returns-then-not-spared g c =
    spared_fails (g.V.Places.spares c.args.view.now) (g.V.Places.stems c.args.view.now) c.args.fmris.now c.loop-place.place c.spared.result c.requires c.loop-place-test.true c.spared.ensures c.if-not-spared.true

pub loop-place-preserved : goal.loop-place-preserved
loop-place-preserved g c =
    spared_more (g.V.Places.spares c.args.view.now) (g.V.Places.stems c.args.view.now) c.args.fmris.now c.loop-place.place c.spared.result c.requires c.loop-place-test.true c.spared.ensures c.if-not-spared.false c.loop-place.invariant
