use Rattle.std.proofs.Common.{List, ◌∷◌, [], ◌++◌, filter, sym, ap, ◌∙◌}
use Rattle.ips_action.specs.Action.{Fields}
use Rattle.ips_turnover.specs.Seen.{is_unlike}
use Rattle.ips_turnover.proofs.Holding.{filter_item}
use Rattle.ips_turnover.proofs.comparing.unlike.Goals as goal

pub loop-action-preserved : goal.loop-action-preserved
loop-action-preserved c =
    let test = is_unlike c.args.kind.now c.args.lines.now in
    c.in_ok-add_unlike.ensures ∙ ap (λ (l : List Fields). l ++ filter test (c.action-item.result ∷ [])) c.loop-action.invariant
    ∙ sym (filter_item test c.args.actions.now c.loop-action.action-index c.action-item.result c.loop-action-test.true c.action-item.is)
