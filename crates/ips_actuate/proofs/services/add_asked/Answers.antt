use Rattle.std.proofs.Common.{arith}
use Rattle.ips_actuate.specs.Gathering.{Asks}
use Rattle.ips_actuate.proofs.Gathered.{grown_none, grown_more, grown_done}
use Rattle.ips_actuate.proofs.services.add_asked.Goals as goal

pub loop-action-init : goal.loop-action-init
loop-action-init c = grown_none (Asks c.args.key.now c.args.lines.now c.args.disabled.now) c.args.set.now

pub loop-action-preserved : goal.loop-action-preserved
loop-action-preserved c =
    grown_more (Asks c.args.key.now c.args.lines.now c.args.disabled.now) c.args.actions.now c.loop-action.action-index c.action-item.result c.args.set.now c.loop-action.set c.add_asked_by.new.set c.loop-action-test.true c.action-item.is
    c.loop-action.invariant c.in_ok-add_asked_by.ensures

pub returns : goal.returns
returns c = grown_done (Asks c.args.key.now c.args.lines.now c.args.disabled.now) c.args.actions.now c.loop-action.action-index c.args.set.now c.loop-action.set (omega arith) c.loop-action.invariant
