use Rattle.std.proofs.Common.{arith}
use Rattle.ips_action.specs.Action.{line_text}
use Rattle.ips_turnover.specs.Turnover.{is_a}
use Rattle.ips_turnover.proofs.Holding.{has_none, has_more, has_done}
use Rattle.ips_turnover.proofs.comparing.lines.Goals as goal

pub loop-action-init : goal.loop-action-init
loop-action-init c = has_none line_text (is_a c.args.kind.now) c.args.actions.now c.new-lines.result c.new-lines.ensures.empty

pub loop-action-preserved : goal.loop-action-preserved
loop-action-preserved c =
    has_more line_text (is_a c.args.kind.now) c.args.actions.now c.loop-action.action-index c.action-item.result c.loop-action.lines c.add_line.new.lines c.loop-action-test.true c.action-item.is c.in_ok-add_line.ensures c.loop-action.invariant

pub returns : goal.returns
returns c = has_done line_text (is_a c.args.kind.now) c.args.actions.now c.loop-action.action-index c.loop-action.lines (omega arith) c.loop-action.invariant
