use Rattle.ips_text.proofs.Ancestry.{covers-self, covers_trans, parent_length, parent_covers}
use Rattle.ips_outside.proofs.Children.{longer_below, short_is, has_above}
use Rattle.ips_outside.proofs.listing.child_above.Goals as goal

pub loop-above-init : goal.loop-above-init
loop-above-init c = record { above = covers-self c.args.path.now; below = c.requires }

pub loop-above-smaller : goal.loop-above-smaller
loop-above-smaller c = parent_length c.loop-above.child.now c.in-Some.above.now c.in-Some.ensures.some

pub loop-above-preserved : goal.loop-above-preserved
loop-above-preserved c = record {
  above = covers_trans c.in-Some.above.now c.loop-above.child.now c.args.path.now (parent_covers c.loop-above.child.now c.in-Some.above.now c.in-Some.ensures.some) c.loop-above.invariant.above;
  below = longer_below c.args.dir.now c.loop-above.child.now c.in-Some.above.now c.loop-above.invariant.below c.in-Some.ensures.some c.if-above-dir.false;
}

pub returns-then-above-dir-clause-child : goal.returns-then-above-dir-clause-child
returns-then-above-dir-clause-child c = short_is c.args.dir.now c.loop-above.child.now c.in-Some.above.now c.loop-above.invariant.below c.in-Some.ensures.some c.if-above-dir.true

pub returns-in_default-clause-child : goal.returns-in_default-clause-child
returns-in_default-clause-child c = absurd (has_above c.args.dir.now c.loop-above.child.now c.args.dir.now c.loop-above.invariant.below c.in_default.ensures.none)
