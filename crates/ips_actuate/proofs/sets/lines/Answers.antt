use Rattle.std.proofs.Common.{◌≡◌, ℕ, List, subst, arith}
use Rattle.ips_action.specs.Action.{Fields, line_text}
use Rattle.ips_actuate.specs.Gathering.{IsGrown}
use Rattle.ips_actuate.proofs.Gathered.{set_none, set_more, set_done}
use Rattle.ips_actuate.proofs.sets.lines.Goals as goal

pub loop-action-init : goal.loop-action-init
loop-action-init c = set_none (λ (a : Fields) (text : List ℕ). line_text a ≡ text) c.new-lines.result c.new-lines.ensures.empty

pub loop-action-preserved : goal.loop-action-preserved
loop-action-preserved c =
    let grown = subst (λ (line : List ℕ). IsGrown (λ other. line ≡ other) c.loop-action.lines c.add.new.set) c.in_ok-print_line.ensures c.in_ok-add.ensures in
    set_more (λ (a : Fields) (text : List ℕ). line_text a ≡ text) c.args.actions.now c.loop-action.action-index c.action-item.result c.loop-action.lines c.add.new.set c.loop-action-test.true c.action-item.is c.loop-action.invariant grown

pub returns : goal.returns
returns c = set_done (λ (a : Fields) (text : List ℕ). line_text a ≡ text) c.args.actions.now c.loop-action.action-index c.loop-action.lines (omega arith) c.loop-action.invariant
