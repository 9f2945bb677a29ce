use Rattle.std.proofs.Common.{arith}
use Rattle.ips_actuate.specs.Gathering.{Disables}
use Rattle.ips_actuate.proofs.Gathered.{set_none, set_more, set_done}
use Rattle.ips_actuate.proofs.services.disabled.Goals as goal

pub loop-action-init : goal.loop-action-init
loop-action-init c = set_none (Disables c.args.standing.now.new_lines c.args.standing.now.new_keys) c.new-set.result c.new-set.ensures.empty

pub loop-action-preserved : goal.loop-action-preserved
loop-action-preserved c =
    set_more (Disables c.args.standing.now.new_lines c.args.standing.now.new_keys) c.args.old.now c.loop-action.action-index c.action-item.result c.loop-action.set c.add_disabled.new.set c.loop-action-test.true c.action-item.is c.loop-action.invariant
    c.in_ok-add_disabled.ensures

pub returns : goal.returns
returns c = set_done (Disables c.args.standing.now.new_lines c.args.standing.now.new_keys) c.args.old.now c.loop-action.action-index c.loop-action.set (omega arith) c.loop-action.invariant
