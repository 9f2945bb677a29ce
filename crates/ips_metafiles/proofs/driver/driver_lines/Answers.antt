use Rattle.std.proofs.Common.{arith}
use Rattle.ips_metafiles.proofs.DriverLines.{lines_none, lines_more, lines_done}
use Rattle.ips_metafiles.proofs.driver.driver_lines.Goals as goal

pub loop-action-init : goal.loop-action-init
loop-action-init c = lines_none c.new-lines.result c.new-lines.ensures.empty

pub loop-action-preserved : goal.loop-action-preserved
loop-action-preserved c =
    lines_more c.args.actions.now c.loop-action.action-index c.action-item.result c.loop-action.lines c.add_driver.new.lines c.loop-action-test.true c.action-item.is c.loop-action.invariant c.in_ok-add_driver.ensures

pub returns : goal.returns
returns c = lines_done c.args.actions.now c.loop-action.action-index c.loop-action.lines (omega arith) c.loop-action.invariant
