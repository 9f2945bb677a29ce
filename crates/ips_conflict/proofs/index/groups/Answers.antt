use Rattle.ips_conflict.proofs.Places.{at_index}
use Rattle.ips_conflict.proofs.Indexed.{groups_none, groups_more, groups_done}
use Rattle.ips_conflict.proofs.index.groups.Goals as goal

pub loop-i-init : goal.loop-i-init
loop-i-init c = groups_none c.args.placed.now c.new-groups.result c.new-groups.ensures.empty

pub loop-i-preserved : goal.loop-i-preserved
loop-i-preserved c =
    groups_more c.args.placed.now c.loop-i.i c.index-placed-i.result c.loop-i.groups c.group.new.groups (at_index c.args.placed.now c.loop-i.i c.index-placed-i.result c.loop-i-test.true c.index-placed-i.is) c.loop-i.invariant c.in_ok-group.ensures

pub returns : goal.returns
returns c = groups_done c.args.placed.now c.loop-i.i c.loop-i.groups c.loop-i-test.false c.loop-i.invariant
