use Rattle.std.proofs.Common.{arith}
use Rattle.ips_conflict.specs.Key.{value_of}
use Rattle.ips_turnover.specs.Turnover.{is_a}
use Rattle.ips_turnover.proofs.Holding.{has_none, has_more, has_done}
use Rattle.ips_turnover.proofs.gone.names.Goals as goal

pub loop-action-init : goal.loop-action-init
loop-action-init c = has_none (value_of c.args.key.now) (is_a c.args.kind.now) c.args.actions.now c.new-names.result c.new-names.ensures.empty

pub loop-action-preserved : goal.loop-action-preserved
loop-action-preserved c =
    has_more (value_of c.args.key.now) (is_a c.args.kind.now) c.args.actions.now c.loop-action.action-index c.action-item.result c.loop-action.names c.add_name.new.names c.loop-action-test.true c.action-item.is c.in_ok-add_name.ensures c.loop-action.invariant

pub returns : goal.returns
returns c = has_done (value_of c.args.key.now) (is_a c.args.kind.now) c.args.actions.now c.loop-action.action-index c.loop-action.names (omega arith) c.loop-action.invariant
